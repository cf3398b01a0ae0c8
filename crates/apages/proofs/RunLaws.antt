-- Laws of runs of bits that are set or cleared, and of the count of clear bits. Assumes nothing.
use mathlib.Core.Path.{◌≡◌, refl, sym, ap, ◌∙◌}
use mathlib.Core.Logic.{⊎_elim}
use mathlib.Core.List.{List, [], ◌∷◌}
use Prim.Native.Nat.{ℕ, zero, suc, ◌+◌, ◌-◌, ◌*◌, ◌≤◌, ◌<◌}
use native.Mathlib.Decide.{ℕ_discrete}
use native.Mathlib.Omega.{arith}
use lib.Dec.{lit<}
use lib.ListN.{length, get_or}
use Rattle.words_sums.specs.Sums.{total, in_run}
use Rattle.words_sums.proofs.SumLaws.{place, total-same, total-front}
use Rattle.apages.specs.Bits.{bit_at, put_bit, set_run, bits_of, clear_in, clear_bits}
use Rattle.apages.proofs.BitLaws.{bit-same, bit-other, put_bit-length, bits_at, bits-length}

-- ---- a run

pub run_none : (p : List ℕ) (a v : ℕ) → set_run p a 0 v ≡ p
unfolding set_run
run_none p a v = refl

-- the end of a loop that sets a run
pub run-done : (p : List ℕ) {d : List ℕ} (a i k v : ℕ) → d ≡ set_run p a i v → i ≡ k → d ≡ set_run p a k v
run-done p a i k v x y = x ∙ ap (λ j. set_run p a j v) y

pub set_run-length : (p : List ℕ) (a k v : ℕ) → length (set_run p a k v) ≡ length p
unfolding set_run
set_run-length p a zero v = refl
set_run-length p a (suc k) v = put_bit-length (set_run p a k v) (a + k) v ∙ set_run-length p a k v

-- the bits of a run after it was set, and all others
module _ (p : List ℕ) (a v : ℕ) (two : v < 2) where
  pub run_in : (k n : ℕ) → a + k ≤ 8 * length p → a ≤ n → n < a + k → bit_at (set_run p a k v) n ≡ v
  unfolding set_run
  run_in zero n f x y = omega arith
  run_in (suc k) n f x y = go (run_in k n (omega arith) x) (ℕ_discrete (a + k) n)
    where
      r : a + k < 8 * length (set_run p a k v)
      r = omega (arith, set_run-length p a k v)

      go : (n < a + k → bit_at (set_run p a k v) n ≡ v) → Dec (a + k ≡ n) → bit_at (put_bit (set_run p a k v) (a + k) v) n ≡ v
      go ih (yes e) = rw (← e) (bit-same (set_run p a k v) (a + k) v two r)
      go ih (no ne) = bit-other (set_run p a k v) (a + k) v two r n ne ∙ ih (omega arith)

  pub run_out : (k n : ℕ) → a + k ≤ 8 * length p → (a ≤ n → n < a + k → ⊥) → bit_at (set_run p a k v) n ≡ bit_at p n
  unfolding set_run
  run_out zero n f o = refl
  run_out (suc k) n f o =
      bit-other (set_run p a k v) (a + k) v two (omega (arith, set_run-length p a k v)) n (λ e. o (omega arith) (omega arith)) ∙ run_out k n (omega arith) (λ x y. o x (omega arith))

module _ (p : List ℕ) (a k : ℕ) (inside : a + k ≤ 8 * length p) where
  -- a run that was clear is set: one more at each of its sectors
  pub set-run : ((n : ℕ) → a ≤ n → n < a + k → bit_at p n ≡ 0) → (n : ℕ) → bit_at (set_run p a k 1) n ≡ bit_at p n + in_run a k n
  set-run clear n =
      let out = run_out p a 1 (lit< tt) k n inside in
      ⊎_elim (λ w. omega (arith, out (λ x y. omega arith)))
      (⊎_elim (λ w. omega (arith, run_in p a 1 (lit< tt) k n inside w.0 w.1, clear n w.0 w.1))
      (λ w. omega (arith, out (λ x y. omega arith)))) (place a k n)

  -- a run that was set is cleared: one less
  pub clear-run : ((n : ℕ) → a ≤ n → n < a + k → bit_at p n ≡ 1) → (n : ℕ) → bit_at (set_run p a k 0) n + in_run a k n ≡ bit_at p n
  clear-run full n =
      let out = run_out p a 0 (lit< tt) k n inside in
      ⊎_elim (λ w. omega (arith, out (λ x y. omega arith)))
      (⊎_elim (λ w. omega (arith, run_in p a 0 (lit< tt) k n inside w.0 w.1, full n w.0 w.1))
      (λ w. omega (arith, out (λ x y. omega arith)))) (place a k n)

-- ---- the count of clear bits

pub clear_in-total : (l : List ℕ) → clear_in l ≡ total (λ n. 1 - get_or l n 0) (length l)
unfolding clear_in total
clear_in-total [] = refl
clear_in-total (b ∷ bs) = ap (λ (t : ℕ). (1 - b) + t) (clear_in-total bs) ∙ sym (total-front (λ n. 1 - get_or (b ∷ bs) n 0) (length bs))

pub clear-total : (p : List ℕ) → clear_bits p ≡ total (λ n. 1 - bit_at p n) (8 * length p)
unfolding clear_bits
clear-total p =
    clear_in-total (bits_of p) ∙ ap (λ (m : ℕ). total (λ n. 1 - get_or (bits_of p) n 0) m) (bits-length p)
    ∙ total-same (λ n. 1 - get_or (bits_of p) n 0) (λ n. 1 - bit_at p n) (8 * length p) (λ i l. ap (λ (b : ℕ). 1 - b) (bits_at p i))

-- at most all bits are clear
clear_in-most : (l : List ℕ) → clear_in l ≤ length l
unfolding clear_in
clear_in-most [] = omega arith
clear_in-most (b ∷ bs) = omega (arith, clear_in-most bs)

pub clear-most : (p : List ℕ) → clear_bits p ≤ 8 * length p
unfolding clear_bits
clear-most p = omega (arith, clear_in-most (bits_of p), bits-length p)
