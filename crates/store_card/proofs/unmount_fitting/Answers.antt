-- The fit that it requires gives what the steps ask. Assumes nothing.
use borrow.Author.Tests.{eqb-true}
use mathlib.Core.Path.{sym}
use Rattle.store.proofs.Fitting.{open-fits-on}
use Rattle.store.proofs.WriteLaws.{can-sync}
use Rattle.store_card.proofs.unmount_fitting.Goals as goal

pub unmount_in-requires : goal.unmount_in-requires
unmount_in-requires c = let d = eqb-true _ _ (sym c.if-not-sized.ensures) in can-sync _ _ _ d (open-fits-on _ _ c.in_ok-s.ensures.ok_part c.requires d)
