-- A run found ends where the search does. Assumes nothing.
use Rattle.std.proofs.Common.{rules}
use Rattle.store_find.proofs.PageLaws.{pages-inside}
use Rattle.store_find.proofs.run_on.Goals as goal

pub map-requires : goal.map-requires
map-requires c = λ n e.
    let found = rw (c.sector_at.ensures.value, c.sector_at-2.ensures.value) at c.run_within-here.ensures in
    let inside = pages-inside c.args.work.now _ _ _ _ _ n c.requires.0 c.requires.1.0 c.requires.1.1.1.0 c.requires.1.1.1.1 found e in
    search rules
