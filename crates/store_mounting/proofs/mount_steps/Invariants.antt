-- At the head of the loop the first i steps are done. Assumes nothing.
use mathlib.Core.Path.{◌≡◌}
use lib.ListN.{take}
use Rattle.sectors.specs.Sectors.{apply_steps}
use Rattle.store.specs.Steps.{mount_steps}
use Rattle.store_mounting.proofs.mount_steps.Given as goal

abbrev pub invariant-loop-i : goal.invariant-loop-i
invariant-loop-i l = l.card ≡ apply_steps (take l.i (mount_steps l.initial.card)) l.initial.card
