-- A session that is not unfit gives what the steps ask. Assumes nothing.
use borrow.Author.Tests.{eqb-true}
use mathlib.Core.Path.{refl, sym}
use Rattle.store.proofs.Fitting.{fit_on, open-fits-on}
use Rattle.store.proofs.WriteLaws.{can-sync}
use Rattle.host.proofs.unmount_first.Goals as goal

pub unmount_steps-requires : goal.unmount_steps-requires
unmount_steps-requires c = let d = eqb-true _ _ (sym c.if-not-sized.ensures) in can-sync _ _ _ d (open-fits-on _ _ c.in_ok-s.ensures.ok_part (fit_on _ _ _ c.if-unfit_on.ensures refl) d)
