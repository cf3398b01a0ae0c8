-- The loop's invariant: the answer for the bits that are left. Assumes nothing.
use mathlib.Core.Path.{◌≡◌}
use Prim.Native.Nat.{◌-◌, ◌≤◌}
use Rattle.apages.specs.Ones.{all_set}
use Rattle.apages_ones.proofs.run_set.Given as goal

abbrev pub invariant-loop-n : goal.invariant-loop-n
invariant-loop-n l = (l.n ≤ l.end) × (all_set l.p l.a l.k ≡ all_set l.p l.n (l.end - l.n))

abbrev pub decreases-loop-n : goal.decreases-loop-n
decreases-loop-n l = l.end - l.n
