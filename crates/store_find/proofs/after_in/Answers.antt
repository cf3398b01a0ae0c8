-- The goal's pages from the goal on, then those of the later pairs. Assumes nothing.
use Rattle.std.proofs.Common.{◌≡◌, ◌+◌, ◌-◌, ◌*◌, ◌<◌, rules, arith}
use Rattle.sectors.specs.Sectors.{sec}
use Rattle.counts.specs.Geometry.{g_p}
use Rattle.counts.specs.Stamps.{table_in}
use Rattle.counts.proofs.TableLaws.{pages-cover}
use Rattle.apages.specs.Inner.{run_from}
use Rattle.apages.proofs.ImageSearch.{after-here, after-later}
use Rattle.store_find.specs.Inner.{found_of}
use Rattle.store_find.proofs.PageLaws.{pages-found, pages-held, or_else-cases}
use Rattle.store_find.proofs.after_in.Goals as goal

pub run_on-here-requires : goal.run_on-here-requires
run_on-here-requires c =
    pages-held c.args.g _ _ c.args.work.now c.requires.1.1.1.1.0 c.requires.0 c.requires.1.0 _ _ c.requires.1.1.1.0 (omega arith)

pub returns : goal.returns
returns c =
    let a = c.args in
    let q = c.requires.1.1 in
    let low : a.goal.0 < 4096 * g_p a.g = omega (arith, q.0, pages-cover a.g) in
    let here = pages-found a.g _ _ a.work.now q.1.1.0 _ _ _ q.1.1.1 c.run_on-here.ensures in
    or_else-cases _ _ c.or_else.ensures
    (λ e p.
    let later : found_of c.or_else.result ≡ run_from a.g (table_in a.g a.v (sec a.work.now)) (table_in a.g a.w (sec a.work.now)) (sec a.work.now) a.k (a.x.pair + 1) (c.pairs-pairs.result - (a.x.pair + 1)) = search rules in
    after-later a.g _ _ a.work.now _ c.requires.0 c.requires.1.0 q.1.0 _ low here e c.pairs-pairs.ensures.0 (rw q.1.1.1 at later))
    (after-here a.g _ _ a.work.now _ c.requires.0 c.requires.1.0 q.1.0 _ low here)
