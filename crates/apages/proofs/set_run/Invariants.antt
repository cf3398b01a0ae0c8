-- The loop's invariant: the bits of the run below sector n are set. Assumes nothing.
use mathlib.Core.Path.{◌≡◌}
use Prim.Native.Nat.{◌-◌, ◌≤◌}
use lib.ListN.{length}
use Rattle.words_sums.specs.Sums.{bit}
use Rattle.apages.specs.Bits.{set_run}
use Rattle.apages.proofs.set_run.Given as goal

abbrev pub invariant-loop-n : goal.invariant-loop-n
invariant-loop-n l = (l.a ≤ l.n) × (l.n ≤ l.end) × (l.p ≡ set_run l.initial.p l.a (l.n - l.a) (bit l.v)) × (length l.p ≡ length l.initial.p)

abbrev pub decreases-loop-n : goal.decreases-loop-n
decreases-loop-n l = l.end - l.n
