-- The loop's invariant: both figures of the pairs passed are counted. Assumes nothing.
use mathlib.Core.Path.{ap}
use native.Mathlib.Omega.{arith}
use Rattle.apages.specs.Free.{free_in, waiting_in}
use Rattle.apages.proofs.FreeLaws.{free-empty, waiting-empty, free-over, waiting-over}
use Rattle.card.proofs.ViewLaws.{page-room}
use Rattle.store.specs.declared.Figures.{Figures}
use Rattle.store_figures.proofs.FigureLaws.{both-figures, figure-start, figure-turn, figure-end}
use Rattle.store_figures.proofs.figures_in.Goals as goal

pub loop-p-init : goal.loop-p-init
loop-p-init c = record {
  free = figure-start free_in free-over free-empty _ _ _ _;
  waiting = figure-start waiting_in waiting-over waiting-empty _ _ _ _;
  few = (omega arith, omega arith);
}

pub sector_at-requires : goal.sector_at-requires
sector_at-requires c = page-room _ _ _ _ c.args.img.laid (omega arith) c.requires c.page_at-first.ensures

pub sector_at-requires-in-loop-p : goal.sector_at-requires-in-loop-p
sector_at-requires-in-loop-p c = page-room _ _ _ _ c.args.img.laid (omega arith) c.requires c.page_at-second.ensures

pub loop-p-preserved : goal.loop-p-preserved
loop-p-preserved c =
    let a = c.sector_at.ensures in
    let b = c.sector_at-in-loop-p.ensures in
    let i = c.loop-p.invariant in
    record {
      free = figure-turn free_in free-over free-empty _ _ _ _ _ _ (omega arith) c.page_at-first.ensures c.page_at-second.ensures a.value b.value a.len b.len (ap (λ (x : Figures). x.free) c.count-page.ensures.figures) i.free;
      waiting = figure-turn waiting_in waiting-over waiting-empty _ _ _ _ _ _ (omega arith) c.page_at-first.ensures c.page_at-second.ensures a.value b.value a.len b.len (ap (λ (x : Figures). x.waiting) c.count-page.ensures.figures) i.waiting;
      few = (omega arith, omega arith);
    }

pub returns : goal.returns
returns c =
    let i = c.loop-p.invariant in
    both-figures (figure-end free_in free-over free-empty _ _ _ _ _ _ (omega arith) i.free) (figure-end waiting_in waiting-over waiting-empty _ _ _ _ _ _ (omega arith) i.waiting)
