-- One byte written many times over. Assumes nothing.
use mathlib.Core.Path.{◌≡◌, sym, ap, ◌∙◌}
use mathlib.Core.List.{List}
use Prim.Native.Nat.{ℕ, suc, ◌+◌}
use native.Mathlib.Numerals.{add-one}
use lib.ListN.{set, replicate, length-replicate, replicate-append-replicate}
use Rattle.words.specs.Lists.{splice}
use Rattle.words.proofs.SpliceLaws.{splice-snoc}

-- one more
pub same_more : (s : List ℕ) (at i x : ℕ) → set (splice s at (replicate i x)) (at + i) x ≡ splice s at (replicate (suc i) x)
same_more s at i x =
    ap (λ (k : ℕ). set (splice s at (replicate i x)) (at + k) x) (sym (length-replicate i x)) ∙ splice-snoc s at (replicate i x) x
    ∙ ap (λ (l : List ℕ). splice s at l) (replicate-append-replicate i 1 x ∙ ap (λ (k : ℕ). replicate k x) (add-one i))
