-- A write inside a part of a list: an entry in its sector, a group in the index. Assumes nothing.
use mathlib.Core.Path.{◌≡◌, refl, ap}
use mathlib.Core.List.{List, [], ◌∷◌}
use Prim.Native.Nat.{ℕ, zero, suc, ◌+◌, ◌≤◌}
use native.Mathlib.Nat.{le_of_suc-le-suc, not-suc-le-zero, zero-add, suc-add}
use native.Mathlib.Omega.{arith}
use lib.ListN.{length, take, drop}
use Rattle.words.specs.Lists.{over, splice}
use Rattle.words.proofs.SpliceLaws.{over-take}

over-over : (n : ℕ) (s e : List ℕ) → length e ≤ n → over s (over (take n s) e) ≡ over s e
unfolding over
over-over n s [] h = over-take n s
over-over zero s (v ∷ e) h = absurd (not-suc-le-zero h)
over-over (suc n) [] (v ∷ e) h = refl
over-over (suc n) (x ∷ s) (v ∷ e) h = ap (λ (r : List ℕ). v ∷ r) (over-over n s e (le_of_suc-le-suc h))

over-splice : (n b : ℕ) (s e : List ℕ) → b + length e ≤ n → over s (splice (take n s) b e) ≡ splice s b e
unfolding over splice
over-splice n zero s e h = over-over n s e (omega arith)
over-splice zero (suc b) s e h = absurd (not-suc-le-zero (simp suc-add at h))
over-splice (suc n) (suc b) [] e h = refl
over-splice (suc n) (suc b) (x ∷ s) e h = ap (λ (r : List ℕ). x ∷ r) (over-splice n b s e (le_of_suc-le-suc (simp suc-add at h)))

-- a splice in a part, and the part put back, is one splice
pub splice-part : (n a b : ℕ) (s e : List ℕ) → b + length e ≤ n → splice s a (splice (take n (drop a s)) b e) ≡ splice s (a + b) e
unfolding splice
splice-part n zero b s e h = rw zero-add (over-splice n b s e h)
splice-part n (suc a) b [] e h = rw suc-add
splice-part n (suc a) b (x ∷ s) e h = rw suc-add (ap (λ (r : List ℕ). x ∷ r) (splice-part n a b s e h))
