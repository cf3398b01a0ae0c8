-- Words that are 0 are in range: where those past C are, the others alone are looked at. Assumes nothing.
use mathlib.Core.Path.{◌≡◌, refl, sym, ◌∙◌}
use mathlib.Core.Bool.{Bool, true, false, ◌&&◌}
use mathlib.Core.List.{List, [], ◌∷◌}
use mathlib.Core.Logic.{⊎_elim}
use Prim.Native.Nat.{ℕ, ◌+◌, min, ◌≤◌, ◌<◌}
use native.Mathlib.Decide.{dec_lt}
use native.Mathlib.Omega.{arith}
use borrow.Author.Tests.{eqb-true, le-leb}
use lib.ListN.{length, drop, drop_of_length-le}
use Rattle.words.specs.Lists.{every, is_zero}
use Rattle.words.proofs.BoolLaws.{both, join}
use Rattle.counts.specs.Stamps.{max_tx, word_max}
use Rattle.counts_table.specs.Inner.{Judged}

zero-max : (l : List ℕ) → every is_zero l ≡ true → every word_max l ≡ true
unfolding every
zero-max [] h = refl
zero-max (x ∷ l) h =
    let (a, b) = both (is_zero x) (every is_zero l) h in
    join _ _ (le-leb x max_tx (omega (arith, eqb-true x 0 a))) (zero-max l b)

-- the end of the walk
pub walk_end : (tab : List ℕ) (n c i r : ℕ) (ok past : Bool) → length tab ≤ n → past ≡ every is_zero (drop (c + 1) tab) → Judged n c past r → i ≡ r → every word_max tab ≡ (ok && every word_max (drop i tab)) → ok ≡ every word_max tab
unfolding every
walk_end tab n c i r ok past l e j q inv = go ok inv
  where
    rest : every word_max (drop i tab) ≡ true
    rest =
        ⊎_elim (λ w. let h : length tab ≤ i = omega (arith, w) in rw (drop_of_length-le tab h))
        (λ w. let h : i ≡ c + 1 = q ∙ w.1 in rw h (zero-max (drop (c + 1) tab) (sym e ∙ w.0))) j

    go : (ok : Bool) → every word_max tab ≡ (ok && every word_max (drop i tab)) → ok ≡ every word_max tab
    go true inv = sym (inv ∙ rest)
    go false inv = sym inv

-- what is dropped past the end makes no difference
pub drop_min : (l : List ℕ) (a n : ℕ) {k : ℕ} → length l ≤ n → k ≡ min a n → drop k l ≡ drop a l
drop_min l a n {k} h e = go (dec_lt n a)
  where
    go : Dec (n < a) → drop k l ≡ drop a l
    go (yes q) =
        let x : length l ≤ k = omega arith in
        let y : length l ≤ a = omega arith in
        rw (drop_of_length-le l x, drop_of_length-le l y)
    go (no q) = let x : k ≡ a = omega arith in rw x
