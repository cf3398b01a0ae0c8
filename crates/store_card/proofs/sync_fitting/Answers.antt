-- The fit that it requires gives what the steps ask. Assumes nothing.
use mathlib.Core.Path.{refl}
use Rattle.store.proofs.Fitting.{open-fits-on}
use Rattle.store.proofs.WriteLaws.{can-sync}
use Rattle.store.proofs.CardLaws.{number-sized}
use Rattle.store_card.proofs.sync_fitting.Goals as goal

pub sync_in-requires : goal.sync_in-requires
sync_in-requires c = let d = number-sized _ _ c.in_ok-sync_tests.ensures refl in can-sync _ _ _ d (open-fits-on _ _ c.in_ok-s.ensures.ok_part c.requires d)
