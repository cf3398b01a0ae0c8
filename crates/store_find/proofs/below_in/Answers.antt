-- The pages before the goal's, then what a run from below the goal can reach of its own. Assumes nothing.
use Rattle.std.proofs.Common.{◌≡◌, ◌*◌, ◌<◌, rules, arith}
use Rattle.sectors.specs.Sectors.{sec}
use Rattle.counts.specs.Geometry.{g_p}
use Rattle.counts.proofs.TableLaws.{pages-cover}
use Rattle.apages.specs.Inner.{run_within, further}
use Rattle.apages.proofs.ImageSearch.{below-before, below-page}
use Rattle.store_find.specs.Inner.{found_of}
use Rattle.store_find.proofs.PageLaws.{pages-found, pages-held, or_else-cases}
use Rattle.store_find.proofs.below_in.Goals as goal

pub lowest_in-requires : goal.lowest_in-requires
lowest_in-requires c = (c.requires.0, (c.requires.1.0, (omega (arith, c.requires.1.1.1.1.1.0.below), c.requires.1.1.1.0)))

pub or_else-requires : goal.or_else-requires
or_else-requires c =
    let held = pages-held c.args.g _ _ c.args.work.now c.requires.1.1.1.1.1.0 c.requires.0 c.requires.1.0 _ c.reach-end.result c.requires.1.1.1.0 (omega (arith, c.reach-end.ensures)) in
    search rules

pub returns : goal.returns
returns c =
    let a = c.args in
    let q = c.requires.1.1 in
    let low : a.goal.0 < 4096 * g_p a.g = omega (arith, q.0, pages-cover a.g) in
    let before = rw q.1.1.1.1 at c.lowest_in.ensures in
    or_else-cases _ _ c.or_else.ensures
    (λ e p.
    let here : found_of c.or_else.result ≡ further (4096 * a.x.pair) (run_within a.k 0 c.reach-end.result (sec a.work.now a.x.a.0) (sec a.work.now a.x.b.0)) = search rules in
    below-page a.g _ _ a.work.now _ c.requires.0 c.requires.1.0 q.1.0 _ low q.1.1.0 before e c.reach-end.ensures
    (pages-found a.g _ _ a.work.now q.1.1.1.0 _ _ _ q.1.1.1.1 here))
    (below-before a.g _ _ a.work.now _ c.requires.0 c.requires.1.0 q.1.0 _ low q.1.1.0 before)
