-- The loop's invariant: the groups before p are written. Assumes nothing.
use mathlib.Core.Path.{◌≡◌, refl}
use native.Mathlib.Omega.{arith}
use Rattle.words.specs.Lists.{pad}
use Rattle.counts.specs.Geometry.{g_p}
use Rattle.card.specs.Make.{fresh_groups, fresh_index}
use Rattle.card.proofs.MakeLaws.{group-turn}
use Rattle.card_fresh.proofs.fresh_index.Goals as goal

pub loop-p-init : goal.loop-p-init
unfolding pad fresh_groups
loop-p-init c = (refl, refl)

pub loop-p-preserved : goal.loop-p-preserved
loop-p-preserved c =
    let l = c.loop-p in
    (omega (arith, c.put_group.auto.s), group-turn _ _ l.invariant.0 (omega arith) l.invariant.1 (rw c.fresh_group.ensures at c.put_group.ensures))

pub returns : goal.returns
unfolding fresh_index
returns c =
    let l = c.loop-p in
    let e : g_p c.args.g ≡ l.p = omega arith in rw e l.invariant.1
