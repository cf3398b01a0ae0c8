-- The loop's invariant: what the pass has seen. Assumes nothing.
use Prim.Native.Nat.{◌-◌}
use Rattle.apages.specs.Inner.{busy_at}
use Rattle.apages.proofs.Scan.{Seen}
use Rattle.apages.proofs.run_within.Given as goal

abbrev pub invariant-loop-at : goal.invariant-loop-at
invariant-loop-at l = Seen (busy_at l.p l.q) l.k l.from l.have l.at

abbrev pub decreases-loop-at : goal.decreases-loop-at
decreases-loop-at l = l.to - l.at
