-- At the head of the loop the first i places are done, and the writes of sync among them counted. Assumes nothing.
use mathlib.Core.Path.{◌≡◌}
use Prim.Native.Nat.{◌≤◌}
use lib.ListN.{take}
use Rattle.sectors.specs.Sectors.{apply_steps}
use Rattle.store.specs.Steps.{all_down, counted_at}
use Rattle.store_syncing.proofs.unmount_steps.Given as goal

abbrev pub invariant-loop-i : goal.invariant-loop-i
invariant-loop-i l = (l.written ≤ l.i) × ((l.card ≡ apply_steps (take l.i (all_down l.s l.work)) l.initial.card) × (l.written ≡ counted_at l.s.worn l.s l.initial.card l.work l.i))
