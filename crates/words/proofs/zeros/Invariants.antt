-- The loop's invariant: the answer is what was seen so far, and that for what is left. Assumes nothing.
use mathlib.Core.Path.{◌≡◌}
use mathlib.Core.Bool.{◌&&◌}
use lib.ListN.{drop}
use Rattle.words.specs.Lists.{every, is_zero}
use Rattle.words.proofs.zeros.Given as goal

abbrev pub invariant-loop-x : goal.invariant-loop-x
invariant-loop-x l = every is_zero l.s ≡ (l.ok && every is_zero (drop l.x-index l.s))
