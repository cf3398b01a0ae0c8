-- The loop's invariant: the files from the first entry on are those that are left. Assumes nothing.
use mathlib.Core.Path.{◌≡◌}
use lib.ListN.{drop}
use Rattle.sectors.specs.Sectors.{sec}
use Rattle.counts.specs.Stamps.{table_in}
use Rattle.directory.specs.Directory.{entries_of}
use Rattle.card.specs.Files.{files_of}
use Rattle.card_files.proofs.next_line.Given as goal

abbrev pub invariant-loop-j : goal.invariant-loop-j
invariant-loop-j l = files_of (table_in l.card.geo l.v (sec l.card.bytes.now)) (drop l.from (entries_of l.card.geo (sec l.card.bytes.now))) ≡ files_of (table_in l.card.geo l.v (sec l.card.bytes.now)) (drop l.j (entries_of l.card.geo (sec l.card.bytes.now)))
