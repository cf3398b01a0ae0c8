-- The fit that it requires gives both lengths. Assumes nothing.
use borrow.Author.Tests.{eqb-true}
use mathlib.Core.Path.{sym}
use native.Mathlib.Omega.{arith}
use Rattle.store.proofs.Fitting.{open-fits-on}
use Rattle.store.proofs.WriteLaws.{can-sync}
use Rattle.store_card.proofs.land_fitting.Goals as goal

pub copy_sector-requires : goal.copy_sector-requires
copy_sector-requires c = let d = eqb-true _ _ (sym c.if-not-sized.ensures) in let e = can-sync c.in_ok-s.s c.args.card.now c.args.work.now d (open-fits-on _ _ c.in_ok-s.ensures.ok_part c.requires d) in (omega (arith, e.card_size, c.if-s-i.false), omega (arith, e.work_size, c.if-s-i.false))
