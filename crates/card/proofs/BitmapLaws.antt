-- The bitmap's rule, bit by bit: what a page that passes says of each bit, and which page passes. Assumes nothing.
use mathlib.Core.Path.{◌≡◌, refl, sym, ap, ◌∙◌}
use mathlib.Core.Bool.{true, cond, ◌||◌}
use mathlib.Core.List.{List, [], ◌∷◌}
use mathlib.Core.Logic.{inr}
use Prim.Native.Nat.{ℕ, zero, suc, ◌+◌, ◌-◌, ◌*◌, ◌/◌, ◌%◌, ◌≤◌, ◌<◌}
use native.Mathlib.Nat.{add-zero, zero-add}
use native.Mathlib.Decide.{dec_lt}
use native.Mathlib.Omega.{arith}
use borrow.Author.Tests.{eqb-true, eq-eqb, lt-ltb, le-ltb, lt-leb, le-leb}
use lib.Dec.{leb, ltb, eqb}
use lib.ListN.{length, take, drop, get_or, length-drop}
use lib.Seq.{length-take-le, get_or-drop, drop-set-lt}
use Rattle.words.specs.Lists.{every}
use Rattle.words.proofs.BoolLaws.{both, join, or-intro}
use Rattle.words.proofs.EveryLaws.{every-at}
use Rattle.counts.specs.declared.Geo.{Geo}
use Rattle.counts.specs.Geometry.{g_f}
use Rattle.apages.specs.Bits.{digit, bit_at, put_bit, set_run, bits_of}
use Rattle.apages.proofs.BitLaws.{bits_at, bits-length, digit-full, bit-take}
use Rattle.apages.specs.Runs.{outside, wanted, bits_ok, is_full, bytes_to_s, page_ok}

-- ---- what the rule wants of a sector's bit

-- a sector of the data
abbrev pub InData : Geo → ℕ → Type 0
InData g n = (g_f g ≤ n) × (n < g.s)

pub in-data : (g : Geo) (n : ℕ) → Dec (InData g n)
in-data g n = go (dec_lt n (g_f g)) (dec_lt n g.s)
  where
    go : Dec (n < g_f g) → Dec (n < g.s) → Dec (InData g n)
    go (yes a) d = no (λ q. omega (arith, q.0))
    go (no a) (yes b) = yes (omega arith, b)
    go (no a) (no b) = no (λ q. b q.1)

pub wanted-in : (g : Geo) (count : ℕ → ℕ) (n : ℕ) → InData g n → wanted g count n ≡ count n
unfolding wanted outside
wanted-in g count n h = rw (le-ltb n (g_f g) h.0, lt-leb g.s n h.1)

pub wanted-out : (g : Geo) (count : ℕ → ℕ) (n : ℕ) → ¬ InData g n → wanted g count n ≡ 1
unfolding wanted outside
wanted-out g count n o = go (dec_lt n (g_f g)) (dec_lt n g.s)
  where
    go : Dec (n < g_f g) → Dec (n < g.s) → cond (ltb n (g_f g) || leb g.s n) 1 (count n) ≡ 1
    go (yes a) d = rw (lt-ltb n (g_f g) a)
    go (no a) (yes b) = absurd (o (omega arith, b))
    go (no a) (no b) = rw (or-intro (ltb n (g_f g)) (leb g.s n) (inr (le-leb g.s n (omega arith))))

-- ---- a list of bits

pub bits-ok : (g : Geo) (count : ℕ → ℕ) (bs : List ℕ) (i : ℕ) → ((j : ℕ) → j < length bs → get_or bs j 0 ≡ wanted g count (i + j)) → bits_ok g count i bs ≡ true
unfolding bits_ok
bits-ok g count [] i h = refl
bits-ok g count (b ∷ bs) i h =
    join _ _ (eq-eqb b (wanted g count i) (rw add-zero at (h 0 (omega arith))))
    (bits-ok g count bs (suc i) (λ j l. let e : i + suc j ≡ suc i + j = omega arith in rw e at (h (suc j) (omega arith))))

pub bits-wanted : (g : Geo) (count : ℕ → ℕ) (bs : List ℕ) (i j : ℕ) → bits_ok g count i bs ≡ true → j < length bs → get_or bs j 0 ≡ wanted g count (i + j)
unfolding bits_ok
bits-wanted g count [] i j h l = absurd (omega arith)
bits-wanted g count (b ∷ bs) i zero h l = rw add-zero (eqb-true b (wanted g count i) (both (eqb b (wanted g count i)) _ h).0)
bits-wanted g count (b ∷ bs) i (suc j) h l =
    let e : i + suc j ≡ suc i + j = omega arith in
    rw e (bits-wanted g count bs (suc i) j (both (eqb b (wanted g count i)) _ h).1 (omega arith))

-- ---- a page

-- a byte that is full has its eight bits set
pub full-bit : (p : List ℕ) (m n : ℕ) → every is_full (drop m p) ≡ true → 8 * m ≤ n → n < 8 * length p → bit_at p n ≡ 1
unfolding bit_at
full-bit p m n h lo hi =
    let e : m + (n / 8 - m) ≡ n / 8 = omega arith in
    let f : eqb (get_or (drop m p) (n / 8 - m) 0) 255 ≡ true = every-at is_full (drop m p) (n / 8 - m) 0 (simp length-drop (omega arith)) h in
    let x : get_or p (n / 8) 0 ≡ 255 = sym (get_or-drop m p (n / 8 - m) 0 ∙ ap (λ (i : ℕ). get_or p i 0) e) ∙ eqb-true _ 255 f in
    ap (λ (x : ℕ). digit x (n % 8)) x ∙ digit-full (n % 8) (omega arith)

pub bytes_past : (g : Geo) → g.s ≤ 8 * bytes_to_s g
unfolding bytes_to_s
bytes_past g = omega arith

module _ (g : Geo) (count : ℕ → ℕ) (p : List ℕ) (top : g.s ≤ 8 * length p) where
  few : bytes_to_s g ≤ length p
  unfolding bytes_to_s
  few = omega (arith, top)

  part-bits : length (bits_of (take (bytes_to_s g) p)) ≡ 8 * bytes_to_s g
  part-bits = bits-length (take (bytes_to_s g) p) ∙ ap (λ (m : ℕ). 8 * m) (length-take-le (bytes_to_s g) p few)

  -- "has set exactly the bits below F, from S up, and of the sectors" counted
  pub page-bits : page_ok g count p ≡ true → (n : ℕ) → n < 8 * length p → bit_at p n ≡ wanted g count n
  unfolding page_ok
  page-bits h n l = go (dec_lt n (8 * bytes_to_s g)) (both (bits_ok g count 0 (bits_of (take (bytes_to_s g) p))) _ h)
    where
      go : Dec (n < 8 * bytes_to_s g) → (bits_ok g count 0 (bits_of (take (bytes_to_s g) p)) ≡ true) × (every is_full (drop (bytes_to_s g) p) ≡ true) → bit_at p n ≡ wanted g count n
      go (yes a) w =
          sym (bits_at (take (bytes_to_s g) p) n ∙ bit-take (bytes_to_s g) p n a)
          ∙ (rw zero-add at (bits-wanted g count (bits_of (take (bytes_to_s g) p)) 0 n w.0 (omega (arith, part-bits))))
      go (no a) w =
          full-bit p (bytes_to_s g) n w.1 (omega arith) l ∙ sym (wanted-out g count n (λ q. omega (arith, q.1, bytes_past g)))

  -- a page passes by its bits, and by its bytes past S
  pub page-ok : ((n : ℕ) → n < 8 * bytes_to_s g → bit_at p n ≡ wanted g count n) → every is_full (drop (bytes_to_s g) p) ≡ true → page_ok g count p ≡ true
  unfolding page_ok
  page-ok h f =
      join _ _
      (bits-ok g count (bits_of (take (bytes_to_s g) p)) 0
      (λ j l. let k : j < 8 * bytes_to_s g = omega (arith, part-bits) in
      rw zero-add (bits_at (take (bytes_to_s g) p) j ∙ bit-take (bytes_to_s g) p j k ∙ h j k)))
      f

-- a run that is set or cleared below 8m leaves the bytes from m on
bit-rest : (p : List ℕ) (m n v : ℕ) → n < 8 * m → drop m (put_bit p n v) ≡ drop m p
unfolding put_bit
bit-rest p m n v l = drop-set-lt m p (n / 8) _ (omega arith)

pub run-rest : (p : List ℕ) (m a k v : ℕ) → a + k ≤ 8 * m → drop m (set_run p a k v) ≡ drop m p
unfolding set_run
run-rest p m a zero v h = refl
run-rest p m a (suc k) v h = bit-rest (set_run p a k v) m (a + k) v (omega arith) ∙ run-rest p m a k v (omega arith)
