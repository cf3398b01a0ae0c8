-- Entries that stand apart: by unlike names, and by showing no file. Assumes nothing.
use mathlib.Core.Path.{◌≡◌, refl, sym, ◌∙◌}
use mathlib.Core.Bool.{Bool, true, false, not, ◌||◌}
use mathlib.Core.List.{List, [], ◌∷◌}
use Prim.Native.Nat.{ℕ}
use Rattle.words.proofs.BoolLaws.{falsum}
use Rattle.words.specs.Lists.{every, eq_list}
use Rattle.entries.specs.Entries.{name_of}
use Rattle.directory.specs.Directory.{gone, apart}

or-true : (a b : Bool) → true ≡ (a || b || true)
or-true true b = refl
or-true false true = refl
or-true false false = refl

-- unlike names
pub apart-unlike : (tp tc p q : List ℕ) (r : Bool) → r ≡ eq_list (name_of p) (name_of q) → not r ≡ true → true ≡ apart tp tc p q
unfolding apart
apart-unlike tp tc p q true e h = falsum h
apart-unlike tp tc p q false e h = rw (← e) (or-true (gone tp tc p) (gone tp tc q))

-- an entry that shows no file stands apart from all
pub gone-apart : (tp tc p : List ℕ) (l : List (List ℕ)) (r : Bool) → r ≡ gone tp tc p → r ≡ true → true ≡ every (apart tp tc p) l
unfolding every apart
gone-apart tp tc p [] r e h = refl
gone-apart tp tc p (q ∷ l) r e h = gone-apart tp tc p l r e h ∙ rw (sym e ∙ h)
