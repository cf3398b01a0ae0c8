-- The loop's invariant: the answer is that for the entries that are left. Assumes nothing.
use Rattle.std.proofs.Common.{◌≡◌, drop}
use Rattle.words.specs.Lists.{every}
use Rattle.sectors.specs.Sectors.{sec}
use Rattle.counts.specs.Stamps.{table_in}
use Rattle.directory.specs.Directory.{entries_of}
use Rattle.card.specs.Tally.{parted_from}
use Rattle.card_tally.proofs.parted_from.Given as goal

abbrev pub invariant-loop-j : goal.invariant-loop-j
invariant-loop-j l = every (parted_from (table_in l.card.geo l.v (sec l.card.bytes.now)) l.r) (drop l.i (entries_of l.card.geo (sec l.card.bytes.now))) ≡ every (parted_from (table_in l.card.geo l.v (sec l.card.bytes.now)) l.r) (drop l.j (entries_of l.card.geo (sec l.card.bytes.now)))
