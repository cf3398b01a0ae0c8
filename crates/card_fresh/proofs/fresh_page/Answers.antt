-- Two runs of bits set in a page of zeros. Assumes nothing.
use mathlib.Core.Path.{◌≡◌}
use borrow.Author.Rules.{rules}
use lib.ListN.{length}
use Rattle.card.proofs.FreshPage.{fresh-built}
use Rattle.card_fresh.proofs.fresh_page.Goals as goal

pub returns : goal.returns
returns c =
    let f = c.data_from-f.ensures.0 in
    let t = c.data_to-s.ensures.0 in
    let n : length c.args.page.now ≡ 512 = search rules in
    let z = rw n at c.fill.ensures.after (λ y h. h) in
    fresh-built _ c.requires.0 _ (rw (f, z) at c.set_run.ensures) (rw t at c.set_run-2.ensures)
