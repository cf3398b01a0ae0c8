-- The loop's invariant: the answer is what was seen so far, and that for what is left of both. Assumes nothing.
use mathlib.Core.Path.{◌≡◌}
use mathlib.Core.Bool.{◌&&◌}
use lib.ListN.{drop}
use Rattle.words.specs.Lists.{eq_list}
use Rattle.words.proofs.same.Given as goal

abbrev pub invariant-loop-i : goal.invariant-loop-i
invariant-loop-i l = eq_list l.a l.b ≡ (l.ok && eq_list (drop l.i l.a) (drop l.i l.b))
