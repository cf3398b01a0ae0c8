-- A session that is not unfit gives what the steps ask. Assumes nothing.
use mathlib.Core.Path.{refl}
use Rattle.store.proofs.Fitting.{fit_on, open-fits-on}
use Rattle.store.proofs.WriteLaws.{can-sync}
use Rattle.store.proofs.CardLaws.{number-sized}
use Rattle.host.proofs.sync_first.Goals as goal

pub sync_steps-requires : goal.sync_steps-requires
sync_steps-requires c = let d = number-sized _ _ c.in_ok-sync_tests.ensures refl in can-sync _ _ _ d (open-fits-on _ _ c.in_ok-s.ensures.ok_part (fit_on _ _ _ c.if-unfit_on.ensures refl) d)
