-- The answer is what was seen so far, and that for what is left. Assumes nothing.
use mathlib.Core.Path.{◌≡◌}
use mathlib.Core.Bool.{◌&&◌}
use lib.ListN.{drop}
use Rattle.words.specs.Lists.{every}
use Rattle.sectors.specs.Sectors.{sec}
use Rattle.counts.specs.Geometry.{table_of}
use Rattle.counts.specs.Stamps.{word_max}
use Rattle.counts_table.proofs.table_max.Given as goal

abbrev pub invariant-loop-i : goal.invariant-loop-i
invariant-loop-i l = every word_max (table_of l.card.geo (sec l.card.bytes.now)) ≡ (l.ok && every word_max (drop l.i (table_of l.card.geo (sec l.card.bytes.now))))
