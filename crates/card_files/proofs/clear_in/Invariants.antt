-- The loop's invariant: the clear bits of the pages passed are counted. Assumes nothing.
use mathlib.Core.Path.{◌≡◌}
use Prim.Native.Nat.{◌+◌, ◌-◌, ◌*◌, ◌≤◌}
use Rattle.sectors.specs.Sectors.{sec}
use Rattle.counts.specs.Geometry.{g_p}
use Rattle.counts.specs.Stamps.{table_in}
use Rattle.apages.specs.Bits.{clear_bits}
use Rattle.apages.specs.Index.{map_from, page_in}
use Rattle.card_files.proofs.clear_in.Given as goal

abbrev pub invariant-loop-p : goal.invariant-loop-p
invariant-loop-p l = (l.clear + clear_bits (map_from l.card.geo (table_in l.card.geo l.v (sec l.card.bytes.now)) (sec l.card.bytes.now) l.p (g_p l.card.geo - l.p)) ≡ clear_bits (page_in l.card.geo (table_in l.card.geo l.v (sec l.card.bytes.now)) (sec l.card.bytes.now))) × (l.clear ≤ 4096 * l.p)
