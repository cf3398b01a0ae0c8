-- The loop's invariant: the answer is what was seen so far and that for the entries that are left, the sectors counted and theirs make the whole, the walk is one over
-- runs of the files, and the page kept is one that the view shows. Assumes nothing.
use mathlib.Core.Path.{◌≡◌}
use mathlib.Core.Bool.{◌&&◌}
use Prim.Native.Nat.{◌+◌, ◌*◌, ◌≤◌}
use lib.ListN.{drop}
use Rattle.words.specs.Lists.{every}
use Rattle.sectors.specs.Sectors.{sec}
use Rattle.counts.specs.Stamps.{table_in}
use Rattle.directory.specs.Directory.{entries_of}
use Rattle.apages.specs.Index.{page_in}
use Rattle.card.specs.Files.{files_of, sectors_of}
use Rattle.card.specs.Tally.{held_by}
use Rattle.card_order.specs.Inner.{Walked}
use Rattle.card_tally.specs.Inner.{IsShown}
use Rattle.card_tally.proofs.tally_of.Given as goal

abbrev pub invariant-loop-j : goal.invariant-loop-j
invariant-loop-j l =
    (every (held_by (table_in l.card.geo l.v (sec l.card.bytes.now)) (page_in l.card.geo (table_in l.card.geo l.v (sec l.card.bytes.now)) (sec l.card.bytes.now))) (entries_of l.card.geo (sec l.card.bytes.now)) ≡ (l.set && every (held_by (table_in l.card.geo l.v (sec l.card.bytes.now)) (page_in l.card.geo (table_in l.card.geo l.v (sec l.card.bytes.now)) (sec l.card.bytes.now))) (drop l.j (entries_of l.card.geo (sec l.card.bytes.now)))))
    × (l.sectors + sectors_of (files_of (table_in l.card.geo l.v (sec l.card.bytes.now)) (drop l.j (entries_of l.card.geo (sec l.card.bytes.now)))) ≡ sectors_of (files_of (table_in l.card.geo l.v (sec l.card.bytes.now)) (entries_of l.card.geo (sec l.card.bytes.now)))) × (l.sectors ≤ 65536 * l.j)
    × Walked l.card.geo (files_of (table_in l.card.geo l.v (sec l.card.bytes.now)) (entries_of l.card.geo (sec l.card.bytes.now))) l.own × IsShown l.card.geo (table_in l.card.geo l.v (sec l.card.bytes.now)) (sec l.card.bytes.now) l.page
