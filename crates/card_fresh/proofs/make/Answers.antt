-- One answer of the definition for each way through the tests. Assumes nothing.
use mathlib.Core.Path.{sym}
use Rattle.counts.proofs.TableLaws.{ok-laid}
use Rattle.card.proofs.MakeLaws.{make-geo, make-size, make-done}
use Rattle.card_fresh.proofs.make.Goals as goal
use Rattle.card_fresh.proofs.make.Goals.{then-not-geo_ok-via-then-not-geo_ok, then-not-geo_ok-via-else-not-geo_ok+then-card-g}

pub returns-then-not-geo_ok : goal.returns-then-not-geo_ok
returns-then-not-geo_ok c =
    elim c.then-not-geo_ok.branch [
      | then-not-geo_ok-via-then-not-geo_ok w ↦ make-geo _ _ w.if-not-geo_ok.ensures
      | then-not-geo_ok-via-else-not-geo_ok+then-card-g w ↦ make-size _ _ w.if-not-geo_ok.ensures w.if-card-g.true
    ]

pub make_in-requires : goal.make_in-requires
make_in-requires c = (ok-laid _ _ (sym c.if-not-geo_ok.ensures) c.if-card-g.false, c.if-card-g.false)

pub returns : goal.returns
returns c = make-done _ _ c.if-not-geo_ok.ensures c.if-card-g.false c.make_in.ensures
