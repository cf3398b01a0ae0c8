-- The loop's invariant: the clear bits of the pages passed are counted. Assumes nothing.
use native.Mathlib.Omega.{arith}
use Rattle.card.proofs.ViewLaws.{page-room, clear-start, clear-page, clear-turn, clear-end}
use Rattle.card_files.proofs.clear_in.Goals as goal

pub loop-p-init : goal.loop-p-init
loop-p-init c = (clear-start _ _ _, omega arith)

pub sector_at-requires : goal.sector_at-requires
sector_at-requires c = page-room _ _ _ _ c.args.card.laid (omega arith) c.requires c.page_at-page.ensures

pub overflow_add-clear : goal.overflow_add-clear
overflow_add-clear c = omega (arith, clear-page _ c.sector_at.ensures.len c.count_clear-clear.ensures)

pub loop-p-preserved : goal.loop-p-preserved
loop-p-preserved c =
    (clear-turn _ _ _ _ _ (omega arith) c.page_at-page.ensures (rw c.sector_at.ensures.value at c.count_clear-clear.ensures) c.loop-p.invariant.0, omega (arith, clear-page _ c.sector_at.ensures.len c.count_clear-clear.ensures))

pub returns : goal.returns
returns c = clear-end _ _ _ _ _ (omega arith) c.loop-p.invariant.0
