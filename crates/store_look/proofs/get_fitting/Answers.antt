-- 4, then the tests of get_in; the fit that it requires gives the layout and the runs. Assumes nothing.
use borrow.Author.Rules.{rules}
use Rattle.session.proofs.FitLaws.{fit-inv}
use Rattle.store.proofs.Fitting.{open-fits}
use Rattle.store.proofs.ViewLaws.{fit-laid}
use Rattle.store.proofs.LookLaws.{fit-runs, get-done}
use Rattle.store_look.proofs.get_fitting.Goals as goal

pub present_view-present-requires : goal.present_view-present-requires
present_view-present-requires c = let l = fit-laid _ _ (open-fits _ c.in_ok-s.ensures.ok_part c.requires) in search rules

pub invariant_of-image : goal.invariant_of-image
invariant_of-image c = record { laid = fit-laid _ _ (open-fits _ c.in_ok-s.ensures.ok_part c.requires) }

pub get_in-requires : goal.get_in-requires
get_in-requires c = let f = open-fits _ c.in_ok-s.ensures.ok_part c.requires in ((fit-inv _ _ f).sized, fit-runs _ _ f c.present_view-present.ensures)

pub returns : goal.returns
returns c = get-done _ _ _ _ c.in_ok-s.ensures.ok_part (open-fits _ c.in_ok-s.ensures.ok_part c.requires) c.present_view-present.ensures c.get_in.ensures
