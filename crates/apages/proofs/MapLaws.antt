-- The map that a view shows, page by page: its length, its bits, and a run of bits changed in one of its pages. Assumes nothing.
use mathlib.Core.Path.{◌≡◌, refl, sym, ap, ◌∙◌}
use mathlib.Core.List.{List, [], ◌∷◌, ◌++◌}
use mathlib.Core.Logic.{◌≢◌}
use Prim.Native.Nat.{ℕ, zero, suc, ◌+◌, ◌-◌, ◌*◌, ◌/◌, ◌%◌, ◌≤◌, ◌<◌}
use native.Mathlib.Decide.{ℕ_discrete}
use native.Mathlib.Omega.{arith}
use lib.ListN.{length, get_or, set, length-append, get_or-append}
use lib.Seq.{set-append_left, get_or-append-add}
use Rattle.sectors.specs.Sectors.{Cells}
use Rattle.counts.specs.declared.Geo.{Geo}
use Rattle.counts.specs.Geometry.{g_p}
use Rattle.apages.specs.Bits.{bit_at, put_bit, set_run, bits_n, bits_of, clear_in, clear_bits}
use Rattle.apages.proofs.RunLaws.{set_run-length}
use Rattle.apages.specs.Index.{page_at, map_from, page_in}

-- ---- bits of two lists of bytes, one behind the other

set-right : (xs ys : List ℕ) (n a : ℕ) → set (xs ++ ys) (length xs + n) a ≡ xs ++ set ys n a
set-right [] ys n a = let e : 0 + n ≡ n = omega arith in ap (λ (i : ℕ). set ys i a) e
set-right (x ∷ xs) ys n a = let e : suc (length xs) + n ≡ suc (length xs + n) = omega arith in rw e (ap (λ (l : List ℕ). x ∷ l) (set-right xs ys n a))

put-left : (x y : List ℕ) (n v : ℕ) → n < 8 * length x → put_bit (x ++ y) n v ≡ put_bit x n v ++ y
unfolding put_bit
put-left x y n v h =
    let l : n / 8 < length x = omega arith in
    rw (get_or-append x y 0 (n / 8) l) (set-append_left x y (n / 8) _ l)

put_right : (x y : List ℕ) (n v : ℕ) → put_bit (x ++ y) (8 * length x + n) v ≡ x ++ put_bit y n v
unfolding put_bit
put_right x y n v =
    let e : (8 * length x + n) / 8 ≡ length x + n / 8 = omega arith in
    let f : (8 * length x + n) % 8 ≡ n % 8 = omega arith in
    rw (e, f, get_or-append-add x y (n / 8) 0) (set-right x y (n / 8) _)

pub run-left : (x y : List ℕ) (a k v : ℕ) → a + k ≤ 8 * length x → set_run (x ++ y) a k v ≡ set_run x a k v ++ y
unfolding set_run
run-left x y a zero v h = refl
run-left x y a (suc k) v h = rw (run-left x y a k v (omega arith)) (put-left (set_run x a k v) y (a + k) v (omega (arith, set_run-length x a k v)))

pub run-right : (x y : List ℕ) (a k v : ℕ) → set_run (x ++ y) (8 * length x + a) k v ≡ x ++ set_run y a k v
unfolding set_run
run-right x y a zero v = refl
run-right x y a (suc k) v =
    let e : 8 * length x + a + k ≡ 8 * length x + (a + k) = omega arith in
    rw (run-right x y a k v, e) (put_right x (set_run y a k v) (a + k) v)

-- bytes, one behind the other
bytes-both : (x y : List ℕ) → ((j : ℕ) → get_or x j 0 < 256) → ((j : ℕ) → get_or y j 0 < 256) → (j : ℕ) → get_or (x ++ y) j 0 < 256
bytes-both [] y a b j = b j
bytes-both (c ∷ x) y a b zero = a 0
bytes-both (c ∷ x) y a b (suc j) = bytes-both x y (λ i. a (suc i)) b j

-- clear bits, one behind the other
bits_n-over : (k x : ℕ) (r s : List ℕ) → bits_n k x (r ++ s) ≡ bits_n k x r ++ s
unfolding bits_n
bits_n-over zero x r s = refl
bits_n-over (suc k) x r s = ap (λ (l : List ℕ). x % 2 ∷ l) (bits_n-over k (x / 2) r s)

pub bits-over : (x y : List ℕ) → bits_of (x ++ y) ≡ bits_of x ++ bits_of y
unfolding bits_of
bits-over [] y = refl
bits-over (c ∷ x) y = rw (bits-over x y) (bits_n-over 8 c (bits_of x) (bits_of y))

pub clear_in-over : (x y : List ℕ) → clear_in (x ++ y) ≡ clear_in x + clear_in y
unfolding clear_in
clear_in-over [] y = omega arith
clear_in-over (b ∷ x) y = omega (arith, clear_in-over x y)

pub clear-over : (x y : List ℕ) → clear_bits (x ++ y) ≡ clear_bits x + clear_bits y
unfolding clear_bits
clear-over x y = rw (bits-over x y) (clear_in-over (bits_of x) (bits_of y))

-- ---- the map

-- pages of two views that are alike, one by one
module _ (g : Geo) (tab tab' : List ℕ) (k k' : Cells) where
  from-same : (n p : ℕ) → ((q : ℕ) → p ≤ q → q < p + n → page_at g tab' k' q ≡ page_at g tab k q) → map_from g tab' k' p n ≡ map_from g tab k p n
  unfolding map_from
  from-same zero p h = refl
  from-same (suc n) p h = rw (h p (omega arith) (omega arith), from-same n (suc p) (λ q lo hi. h q (omega arith) (omega arith)))

  pub map_same : ((p : ℕ) → p < g_p g → page_at g tab' k' p ≡ page_at g tab k p) → page_in g tab' k' ≡ page_in g tab k
  unfolding page_in
  map_same h = from-same (g_p g) 0 (λ q lo hi. h q (omega arith))

-- every page is one sector
abbrev pub Wide : Geo → List ℕ → Cells → Type 0
Wide g tab k = (p : ℕ) → p < g_p g → length (page_at g tab k p) ≡ 512

module _ (g : Geo) (tab : List ℕ) (k : Cells) where
  from-length : (n p : ℕ) → ((q : ℕ) → p ≤ q → q < p + n → length (page_at g tab k q) ≡ 512) → length (map_from g tab k p n) ≡ 512 * n
  unfolding map_from
  from-length zero p h = refl
  from-length (suc n) p h =
      simp length-append (omega (arith, h p (omega arith) (omega arith), from-length n (suc p) (λ q lo hi. h q (omega arith) (omega arith))))

  pub map-length : Wide g tab k → length (page_in g tab k) ≡ 512 * g_p g
  unfolding page_in
  map-length h = from-length (g_p g) 0 (λ q lo hi. h q (omega arith))

  from_bytes : (n p : ℕ) → ((q : ℕ) → p ≤ q → q < p + n → (j : ℕ) → get_or (page_at g tab k q) j 0 < 256) → (j : ℕ) → get_or (map_from g tab k p n) j 0 < 256
  unfolding map_from
  from_bytes zero p h j = omega arith
  from_bytes (suc n) p h j =
      bytes-both (page_at g tab k p) (map_from g tab k (suc p) n) (h p (omega arith) (omega arith)) (from_bytes n (suc p) (λ q lo hi. h q (omega arith) (omega arith))) j

  pub map-bytes : ((p : ℕ) → p < g_p g → (j : ℕ) → get_or (page_at g tab k p) j 0 < 256) → (j : ℕ) → get_or (page_in g tab k) j 0 < 256
  unfolding page_in
  map-bytes h j = from_bytes (g_p g) 0 (λ q lo hi. h q (omega arith)) j

  -- a byte of the map stands in the page that covers it
  from_byte : (n p q j : ℕ) → ((r : ℕ) → p ≤ r → r < p + n → length (page_at g tab k r) ≡ 512) → p ≤ q → q < p + n → j < 512
      → get_or (map_from g tab k p n) (512 * (q - p) + j) 0 ≡ get_or (page_at g tab k q) j 0
  unfolding map_from
  from_byte zero p q j h lo hi l = absurd (omega arith)
  from_byte (suc n) p q j h lo hi l = go (ℕ_discrete q p) (λ z. from_byte n (suc p) q j (λ r a b. h r (omega arith) (omega arith)) z (omega arith) l)
    where
      w : length (page_at g tab k p) ≡ 512
      w = h p (omega arith) (omega arith)

      go : Dec (q ≡ p) → (suc p ≤ q → get_or (map_from g tab k (suc p) n) (512 * (q - suc p) + j) 0 ≡ get_or (page_at g tab k q) j 0)
          → get_or (page_at g tab k p ++ map_from g tab k (suc p) n) (512 * (q - p) + j) 0 ≡ get_or (page_at g tab k q) j 0
      go (yes e) ih =
          let z : 512 * (q - p) + j ≡ j = omega arith in
          rw (z, e) (get_or-append (page_at g tab k p) (map_from g tab k (suc p) n) 0 j (omega (arith, w)))
      go (no o) ih =
          let z : 512 * (q - p) + j ≡ length (page_at g tab k p) + (512 * (q - suc p) + j) = omega (arith, w) in
          rw z (get_or-append-add (page_at g tab k p) (map_from g tab k (suc p) n) (512 * (q - suc p) + j) 0 ∙ ih (omega arith))

  pub map-byte : Wide g tab k → (q j : ℕ) → q < g_p g → j < 512 → get_or (page_in g tab k) (512 * q + j) 0 ≡ get_or (page_at g tab k q) j 0
  unfolding page_in
  map-byte h q j lo l =
      let e : 512 * (q - 0) + j ≡ 512 * q + j = omega arith in
      rw e at (from_byte (g_p g) 0 q j (λ r a b. h r (omega arith)) (omega arith) (omega arith) l)

  -- and so does the bit of a sector
  pub map-bit : Wide g tab k → (q i : ℕ) → q < g_p g → i < 4096 → bit_at (page_in g tab k) (4096 * q + i) ≡ bit_at (page_at g tab k q) i
  unfolding bit_at
  map-bit h q i lo l =
      let e : (4096 * q + i) / 8 ≡ 512 * q + i / 8 = omega arith in
      let f : (4096 * q + i) % 8 ≡ i % 8 = omega arith in rw (e, f, map-byte h q (i / 8) lo (omega arith))

-- a run of bits changed in page q, and every other page as it was: the run changed in the map
module _ (g : Geo) (tab : List ℕ) (k k' : Cells) (q a m v : ℕ) (fits : a + m ≤ 4096) where
  from-set : (n p : ℕ) → ((r : ℕ) → p ≤ r → r < p + n → length (page_at g tab k r) ≡ 512)
      → ((r : ℕ) → p ≤ r → r < p + n → r ≢ q → page_at g tab k' r ≡ page_at g tab k r) → page_at g tab k' q ≡ set_run (page_at g tab k q) a m v
      → p ≤ q → q < p + n → map_from g tab k' p n ≡ set_run (map_from g tab k p n) (4096 * (q - p) + a) m v
  unfolding map_from
  from-set zero p h other here lo hi = absurd (omega arith)
  from-set (suc n) p h other here lo hi =
      go (ℕ_discrete q p) (λ z. from-set n (suc p) (λ r x y. h r (omega arith) (omega arith)) (λ r x y. other r (omega arith) (omega arith)) here z (omega arith))
    where
      w : length (page_at g tab k p) ≡ 512
      w = h p (omega arith) (omega arith)

      go : Dec (q ≡ p) → (suc p ≤ q → map_from g tab k' (suc p) n ≡ set_run (map_from g tab k (suc p) n) (4096 * (q - suc p) + a) m v)
          → page_at g tab k' p ++ map_from g tab k' (suc p) n ≡ set_run (page_at g tab k p ++ map_from g tab k (suc p) n) (4096 * (q - p) + a) m v
      go (yes e) ih =
          let z : 4096 * (q - p) + a ≡ a = omega arith in
          let x : page_at g tab k' p ≡ set_run (page_at g tab k p) a m v = rw e at here in
          rw (z, x, from-same g tab tab k k' n (suc p) (λ r x y. other r (omega arith) (omega arith) (omega arith)))
          (sym (run-left (page_at g tab k p) (map_from g tab k (suc p) n) a m v (omega (arith, w))))
      go (no o) ih =
          let z : 4096 * (q - p) + a ≡ 8 * length (page_at g tab k p) + (4096 * (q - suc p) + a) = omega (arith, w) in
          rw (z, other p (omega arith) (omega arith) (λ x. o (sym x)), ih (omega arith))
          (sym (run-right (page_at g tab k p) (map_from g tab k (suc p) n) (4096 * (q - suc p) + a) m v))

  pub map-set : Wide g tab k → q < g_p g → ((r : ℕ) → r < g_p g → r ≢ q → page_at g tab k' r ≡ page_at g tab k r) → page_at g tab k' q ≡ set_run (page_at g tab k q) a m v
      → page_in g tab k' ≡ set_run (page_in g tab k) (4096 * q + a) m v
  unfolding page_in
  map-set h lo other here =
      let e : 4096 * (q - 0) + a ≡ 4096 * q + a = omega arith in
      rw e at (from-set (g_p g) 0 (λ r x y. h r (omega arith)) (λ r x y. other r (omega arith)) here (omega arith) (omega arith))
