-- The loop's invariant: the entries passed stand apart, and their names are marked. Assumes nothing.
use mathlib.Core.Path.{◌≡◌}
use mathlib.Core.Bool.{true}
use lib.ListN.{length, drop}
use Rattle.words.specs.Lists.{pairwise}
use Rattle.counts.specs.Stamps.{table_in}
use Rattle.sectors.specs.Sectors.{sec}
use Rattle.directory.specs.Directory.{entries_of, apart}
use Rattle.directory_rules.specs.Inner.{Known}
use Rattle.directory_rules.proofs.names_ok.Given as goal

abbrev pub invariant-loop-i : goal.invariant-loop-i
invariant-loop-i l = (length l.marks ≡ 128) × (pairwise (apart (table_in l.card.geo l.v (sec l.card.bytes.now)) (table_in l.card.geo l.w (sec l.card.bytes.now))) (drop l.i (entries_of l.card.geo (sec l.card.bytes.now))) ≡ true) × Known (table_in l.card.geo l.v (sec l.card.bytes.now)) (table_in l.card.geo l.w (sec l.card.bytes.now)) (entries_of l.card.geo (sec l.card.bytes.now)) l.i l.marks
