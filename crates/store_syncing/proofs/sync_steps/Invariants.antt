-- At the head of the loop the first i places are done, and their writes counted. Assumes nothing.
use mathlib.Core.Path.{◌≡◌}
use mathlib.Core.List.{[]}
use Prim.Native.Nat.{◌≤◌}
use lib.ListN.{take}
use Rattle.sectors.specs.Sectors.{apply_steps}
use Rattle.store.specs.Steps.{all_steps, written_at}
use Rattle.store_syncing.proofs.sync_steps.Given as goal

abbrev pub invariant-loop-i : goal.invariant-loop-i
invariant-loop-i l = (l.written ≤ l.i) × ((l.card ≡ apply_steps (take l.i (all_steps l.s l.work [])) l.initial.card) × (l.written ≡ written_at l.s l.initial.card l.work l.i))
