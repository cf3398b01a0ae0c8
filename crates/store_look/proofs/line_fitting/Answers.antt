-- 4, then the line; the fit that it requires gives the layout. Assumes nothing.
use borrow.Author.Rules.{rules}
use Rattle.store.proofs.Fitting.{open-fits}
use Rattle.store.proofs.ViewLaws.{fit-laid}
use Rattle.store.proofs.LookLaws.{line-done}
use Rattle.store_look.proofs.line_fitting.Goals as goal

pub present_view-present-requires : goal.present_view-present-requires
present_view-present-requires c = let l = fit-laid _ _ (open-fits _ c.in_ok-s.ensures.ok_part c.requires) in search rules

pub invariant_of-image : goal.invariant_of-image
invariant_of-image c = record { laid = fit-laid _ _ (open-fits _ c.in_ok-s.ensures.ok_part c.requires) }

pub returns : goal.returns
returns c = line-done _ _ c.in_ok-s.ensures.ok_part (open-fits _ c.in_ok-s.ensures.ok_part c.requires) c.present_view-present.ensures _ (search rules)
