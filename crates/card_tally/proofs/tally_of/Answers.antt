-- The loop's invariant: the answer is what was seen so far and that for the entries that are left, the sectors counted and theirs make the whole, the walk is one over
-- runs of the files, and the page kept is one that the view shows. Assumes nothing.
use mathlib.Core.Path.{refl}
use mathlib.Core.List.{[]}
use native.Mathlib.Omega.{arith}
use lib.ListN.{get_or}
use Rattle.words.proofs.EveryLaws.{seen-go, seen_end}
use Rattle.sectors.specs.Sectors.{sec}
use Rattle.counts.specs.Stamps.{table_in}
use Rattle.counts.proofs.TableLaws.{pages-cover, dir-is}
use Rattle.directory.specs.Directory.{entries_of}
use Rattle.directory.proofs.DirectoryLaws.{entries-lt, entries-le}
use Rattle.apages.specs.Index.{page_in}
use Rattle.card.specs.Files.{run_at}
use Rattle.card.specs.Tally.{held_by}
use Rattle.card.proofs.TallyTests.{run-paged, held-here, sectors-next, sectors-end}
use Rattle.card_order.proofs.Turns.{entry-held, walk_none, walk-next}
use borrow.Author.Rules.{rules}
use Rattle.card_tally.proofs.Pages.{kept-room, kept-held}
use Rattle.card_tally.proofs.Runs.{run-room}
use Rattle.card_tally.proofs.tally_of.Goals as goal

pub page_at-requires : goal.page_at-requires
page_at-requires c = omega (arith, c.args.card.laid.past, dir-is c.args.card.geo)

pub loop-j-init : goal.loop-j-init
loop-j-init c = (refl, omega arith, search rules, walk_none _ _ _ refl refl, record { below = omega (arith, c.args.card.laid.past, dir-is c.args.card.geo); shown = c.page_at.ensures })

pub page_of-page-requires : goal.page_of-page-requires
page_of-page-requires c =
    let below = run-room _ _ _ c.requires.1 c.loop-j-test.true c.run_at-r.ensures in
    (omega (arith, below, pages-cover c.args.card.geo), c.loop-j.invariant.4)

pub page_held-set-requires : goal.page_held-set-requires
unfolding run_at
page_held-set-requires c =
    let l = entries-lt c.args.card.geo c.args.card.bytes.now _ c.loop-j-test.true in
    (kept-room _ _ _ c.args.card.laid c.requires.0 _ c.page_of-page.ensures.0, run-paged _ _ _ c.requires.1 _ l c.run_at-r.ensures)

pub overflow_add-sectors : goal.overflow_add-sectors
overflow_add-sectors c = omega (arith, c.args.card.laid.s, c.args.card.laid.d, run-room _ _ _ c.requires.1 c.loop-j-test.true c.run_at-r.ensures)

pub step-own-requires : goal.step-own-requires
step-own-requires c =
    let own = c.loop-j.invariant.3 in
    (omega (arith, c.args.card.laid.s, run-room _ _ _ c.requires.1 c.loop-j-test.true c.run_at-r.ensures), omega (arith, c.args.card.laid.s, own.below, own.few))

pub loop-j-preserved : goal.loop-j-preserved
unfolding run_at
loop-j-preserved c =
    let e = c.run_at-r.ensures in
    let es = entries_of c.args.card.geo (sec c.args.card.bytes.now) in
    let l = entries-lt c.args.card.geo c.args.card.bytes.now _ c.loop-j-test.true in
    let below = run-room _ _ _ c.requires.1 c.loop-j-test.true e in
    let tab = table_in c.args.card.geo c.args.v (sec c.args.card.bytes.now) in
    let m = page_in c.args.card.geo tab (sec c.args.card.bytes.now) in
    let o = c.loop-j in
    let q = c.page_of-page in
    let run = entry-held c.args.card.geo tab es c.requires.1 _ l e in
    let paged = run-paged c.args.card.geo tab es c.requires.1 _ l e in
    let bits = kept-held c.args.card.geo tab c.args.card.bytes.now c.args.card.laid c.requires.0 _ q.ensures.0 _ _ q.ensures.1 paged c.page_held-set.ensures in
    let here = held-here tab m (get_or es o.j []) e bits in (
      seen-go (held_by tab m) es [] o.j o.set _ l here o.invariant.0,
      omega (arith, sectors-next tab es _ l e),
      omega (arith, c.args.card.laid.s, below),
      rw c.step-own.ensures (walk-next _ _ _ _ o.invariant.3 run),
      q.ensures.0,
    )

pub returns : goal.returns
returns c =
    let es = entries_of c.args.card.geo (sec c.args.card.bytes.now) in
    let l = entries-le _ _ _ c.loop-j-test.false in
    let o = c.loop-j in
    (seen_end _ es [] _ _ l o.invariant.0, (omega (arith, sectors-end (table_in c.args.card.geo c.args.v (sec c.args.card.bytes.now)) es _ l), (omega (arith, c.args.card.laid.d), o.invariant.3)))
