-- 4, then the figures; the fit that it requires gives the layout and the index. Assumes nothing.
use borrow.Author.Rules.{rules}
use Rattle.store.proofs.Fitting.{open-fits}
use Rattle.store.proofs.ViewLaws.{fit-laid, fit-pair}
use Rattle.store.proofs.LookLaws.{free-done}
use Rattle.store_look.proofs.free_fitting.Goals as goal

pub present_view-present-requires : goal.present_view-present-requires
present_view-present-requires c = let l = fit-laid _ _ (open-fits _ c.in_ok-s.ensures.ok_part c.requires) in search rules

pub as_is-cut-requires : goal.as_is-cut-requires
as_is-cut-requires c = let l = fit-laid _ _ (open-fits _ c.in_ok-s.ensures.ok_part c.requires) in search rules

pub invariant_of-image : goal.invariant_of-image
invariant_of-image c = record { laid = fit-laid _ _ (open-fits _ c.in_ok-s.ensures.ok_part c.requires) }

pub figures_in-requires : goal.figures_in-requires
figures_in-requires c = fit-pair _ _ (open-fits _ c.in_ok-s.ensures.ok_part c.requires)

pub returns : goal.returns
returns c = free-done _ _ c.in_ok-s.ensures.ok_part (open-fits _ c.in_ok-s.ensures.ok_part c.requires) c.present_view-present.ensures c.as_is-cut.ensures c.figures_in.ensures
