-- The loop's invariant: no two runs of the entries passed meet, and the files of those before `rest` start at `low` or past it. Assumes nothing.
use mathlib.Core.Path.{◌≡◌}
use mathlib.Core.Bool.{true}
use Prim.Native.Nat.{◌*◌, ◌≤◌}
use lib.ListN.{drop}
use Rattle.words.specs.Lists.{pairwise}
use Rattle.sectors.specs.Sectors.{sec}
use Rattle.counts.specs.Stamps.{table_in}
use Rattle.directory.specs.Directory.{entries_of}
use Rattle.card.specs.Tally.{parted_in}
use Rattle.card.proofs.TallyTests.{Rising}
use Rattle.card_tally.proofs.pairs_apart.Given as goal

abbrev pub invariant-loop-i : goal.invariant-loop-i
invariant-loop-i l = (l.i ≤ l.rest) × (l.rest ≤ 4 * l.card.geo.d) × (pairwise (parted_in (table_in l.card.geo l.v (sec l.card.bytes.now))) (drop l.i (entries_of l.card.geo (sec l.card.bytes.now))) ≡ true) × Rising (table_in l.card.geo l.v (sec l.card.bytes.now)) (entries_of l.card.geo (sec l.card.bytes.now)) l.i l.rest l.low
