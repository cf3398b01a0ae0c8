-- Free and waiting of two maps: as counts over sectors, what they add up to, and maps one behind the other. Assumes nothing.
use mathlib.Core.Path.{◌≡◌, refl, sym, ap, ◌∙◌}
use mathlib.Core.List.{List, [], ◌∷◌, ◌++◌}
use mathlib.Core.Logic.{⊎_elim}
use Prim.Native.Nat.{ℕ, zero, suc, ◌+◌, ◌-◌, ◌*◌, ◌≤◌, ◌<◌}
use native.Mathlib.Omega.{arith}
use lib.ListN.{length, get_or}
use Rattle.words_sums.specs.Sums.{total, in_run}
use Rattle.words_sums.proofs.SumLaws.{place, total-front, total-add, total-run, total-same, total-zero, total-empty}
use Rattle.apages.specs.Bits.{bit_at, bits_of, clear_in, clear_bits}
use Rattle.apages.proofs.BitLaws.{bit-lt, bits_at, bits-length}
use Rattle.apages.proofs.RunLaws.{clear_in-total, clear-total, clear-most}
use Rattle.apages.specs.Runs.{merge}
use Rattle.apages.proofs.LowestLaws.{merge-at, merge-length}
use Rattle.apages.proofs.MapLaws.{bits-over, clear_in-over}
use Rattle.apages.proofs.PageSearch.{merge-over}
use Rattle.apages.specs.Free.{free_in, waits, waiting_in}

-- ---- one sector

-- 1 where it is clear in both maps, else 0
unfoldable pub free_at : List ℕ → List ℕ → ℕ → ℕ
free_at p q n = 1 - (bit_at p n + bit_at q n)

-- 1 where it is clear in the first and set in the second, else 0
unfoldable pub waits_at : List ℕ → List ℕ → ℕ → ℕ
waits_at p q n = (1 - bit_at p n) * bit_at q n

-- a bit that the first has clear is clear or set in the second
either-bit : (x y : ℕ) → y < 2 → 1 - (x + y) + (1 - x) * y ≡ 1 - x
either-bit zero y h = omega arith
either-bit (suc x) y h = let z : 1 - suc x ≡ 0 = omega arith in rw z (omega arith)

pub either-at : (p q : List ℕ) (n : ℕ) → free_at p q n + waits_at p q n ≡ 1 - bit_at p n
unfolding free_at waits_at
either-at p q n = either-bit (bit_at p n) (bit_at q n) (bit-lt q n)

free-here : (p q : List ℕ) (n : ℕ) → (bit_at p n ≡ 0) × (bit_at q n ≡ 0) → free_at p q n ≡ 1
unfolding free_at
free-here p q n (a, b) = rw (a, b)

busy-here : (p q : List ℕ) (n : ℕ) → ¬ ((bit_at p n ≡ 0) × (bit_at q n ≡ 0)) → free_at p q n ≡ 0
unfolding free_at
busy-here p q n h = go (bit_at p n) (bit_at q n) h
  where
    go : (x y : ℕ) → ¬ ((x ≡ 0) × (y ≡ 0)) → 1 - (x + y) ≡ 0
    go zero zero h = absurd (h (refl, refl))
    go zero (suc y) h = omega arith
    go (suc x) y h = omega arith

-- ---- both figures as counts

waits-total : (a b : List ℕ) → length a ≡ length b → waits a b ≡ total (λ n. (1 - get_or a n 0) * get_or b n 0) (length a)
unfolding waits total
waits-total [] [] h = refl
waits-total [] (y ∷ b) h = refl
waits-total (x ∷ a) [] h = absurd (omega arith)
waits-total (x ∷ a) (y ∷ b) h =
    ap (λ (t : ℕ). (1 - x) * y + t) (waits-total a b (omega arith)) ∙ sym (total-front (λ n. (1 - get_or (x ∷ a) n 0) * get_or (y ∷ b) n 0) (length a))

module _ (p q : List ℕ) (alike : length p ≡ length q) where
  bits-alike : length (bits_of p) ≡ length (bits_of q)
  bits-alike = omega (arith, bits-length p, bits-length q)

  pub free-total : free_in p q ≡ total (free_at p q) (8 * length p)
  unfolding free_in free_at
  free-total =
      clear_in-total (merge (bits_of p) (bits_of q)) ∙ ap (λ (m : ℕ). total (λ n. 1 - get_or (merge (bits_of p) (bits_of q)) n 0) m) (merge-length (bits_of p) (bits_of q) bits-alike ∙ bits-length p)
      ∙ total-same (λ n. 1 - get_or (merge (bits_of p) (bits_of q)) n 0) (λ n. 1 - (bit_at p n + bit_at q n)) (8 * length p)
      (λ i l. rw (merge-at (bits_of p) (bits_of q) i bits-alike, bits_at p i, bits_at q i))

  pub waiting-total : waiting_in p q ≡ total (waits_at p q) (8 * length p)
  unfolding waiting_in waits_at
  waiting-total =
      waits-total (bits_of p) (bits_of q) bits-alike ∙ ap (λ (m : ℕ). total (λ n. (1 - get_or (bits_of p) n 0) * get_or (bits_of q) n 0) m) (bits-length p)
      ∙ total-same (λ n. (1 - get_or (bits_of p) n 0) * get_or (bits_of q) n 0) (λ n. (1 - bit_at p n) * bit_at q n) (8 * length p) (λ i l. rw (bits_at p i, bits_at q i))

  -- together they are the clear bits of the first map
  pub free-waiting : free_in p q + waiting_in p q ≡ clear_bits p
  free-waiting =
      omega
      (arith, free-total, waiting-total, clear-total p, total-add (free_at p q) (waits_at p q) (λ n. 1 - bit_at p n) (8 * length p) (λ n l. either-at p q n))

  -- each is at most all sectors
  pub free-most : free_in p q ≤ 8 * length p
  free-most = omega (arith, free-waiting, clear-most p)

  pub waiting-most : waiting_in p q ≤ 8 * length p
  waiting-most = omega (arith, free-waiting, clear-most p)

  -- none is free exactly when no sector is clear in both
  pub none_free : free_in p q ≡ 0 → (n : ℕ) → n < 8 * length p → ¬ ((bit_at p n ≡ 0) × (bit_at q n ≡ 0))
  none_free e n l b = absurd (omega (arith, total-empty (free_at p q) (8 * length p) (sym free-total ∙ e) n l, free-here p q n b))

  pub free-none : ((n : ℕ) → n < 8 * length p → ¬ ((bit_at p n ≡ 0) × (bit_at q n ≡ 0))) → free_in p q ≡ 0
  free-none h = free-total ∙ total-same (free_at p q) (λ n. 0) (8 * length p) (λ n l. busy-here p q n (h n l)) ∙ total-zero (8 * length p)

  -- the sectors of a run that is clear in both are free
  pub free-run : (a k : ℕ) → a + k ≤ 8 * length p → ((n : ℕ) → a ≤ n → n < a + k → (bit_at p n ≡ 0) × (bit_at q n ≡ 0)) → k ≤ free_in p q
  free-run a k l h =
      omega
      (arith, free-total, total-run a k (8 * length p), total-add (in_run a k) (λ n. free_at p q n - in_run a k n) (free_at p q) (8 * length p) (λ n b. each n))
    where
      each : (n : ℕ) → in_run a k n + (free_at p q n - in_run a k n) ≡ free_at p q n
      each n =
          ⊎_elim (λ w. omega arith)
          (⊎_elim (λ w. omega (arith, free-here p q n (h n w.0 w.1))) (λ w. omega arith)) (place a k n)

-- ---- one map twice: nothing waits

self-bit : (x : ℕ) → (1 - x) * x ≡ 0
self-bit zero = refl
self-bit (suc x) = let z : 1 - suc x ≡ 0 = omega arith in rw z (omega arith)

pub waiting-self : (p : List ℕ) → waiting_in p p ≡ 0
unfolding waits_at
waiting-self p = waiting-total p p refl ∙ total-same (λ n. (1 - bit_at p n) * bit_at p n) (λ n. 0) (8 * length p) (λ i l. self-bit (bit_at p i)) ∙ total-zero (8 * length p)

pub free-self : (p : List ℕ) → free_in p p ≡ clear_bits p
free-self p = omega (arith, free-waiting p p refl, waiting-self p)

-- ---- maps one behind the other

pub free-empty : free_in [] [] ≡ 0
unfolding free_in bits_of merge clear_in
free-empty = refl

pub waiting-empty : waiting_in [] [] ≡ 0
unfolding waiting_in bits_of waits
waiting-empty = refl

waits-over : (a b c d : List ℕ) → length a ≡ length b → waits (a ++ c) (b ++ d) ≡ waits a b + waits c d
unfolding waits
waits-over [] [] c d h = omega arith
waits-over [] (y ∷ b) c d h = absurd (omega arith)
waits-over (x ∷ a) [] c d h = absurd (omega arith)
waits-over (x ∷ a) (y ∷ b) c d h = omega (arith, waits-over a b c d (omega arith))

module _ (p q u v : List ℕ) (alike : length p ≡ length q) where
  over-alike : length (bits_of p) ≡ length (bits_of q)
  over-alike = omega (arith, bits-length p, bits-length q)

  pub free-over : free_in (p ++ u) (q ++ v) ≡ free_in p q + free_in u v
  unfolding free_in
  free-over =
      rw (bits-over p u, bits-over q v, merge-over (bits_of p) (bits_of q) (bits_of u) (bits_of v) over-alike)
      (clear_in-over (merge (bits_of p) (bits_of q)) (merge (bits_of u) (bits_of v)))

  pub waiting-over : waiting_in (p ++ u) (q ++ v) ≡ waiting_in p q + waiting_in u v
  unfolding waiting_in
  waiting-over = rw (bits-over p u, bits-over q v) (waits-over (bits_of p) (bits_of q) (bits_of u) (bits_of v) over-alike)
