-- The shape gives the limits; the two words that code reads. Assumes nothing.
use Prim.Native.Nat.{◌≤◌}
use native.Mathlib.Omega.{arith}
use lib.ListN.{length}
use Rattle.card.proofs.SoundLaws.{shape-inv}
use Rattle.counts.proofs.GeoLaws.{limits}
use Rattle.store.proofs.WriteLaws.{count-here}
use Rattle.store_card.proofs.has_count.Goals as goal

pub word_at-requires : goal.word_at-requires
word_at-requires c = let (g, m) = shape-inv _ c.requires in let L = limits _ g in omega (arith, m, L.s_low)

pub geo_of-requires : goal.geo_of-requires
geo_of-requires c = let (g, m) = shape-inv _ c.requires in let L = limits _ g in omega (arith, m, L.s_low)

pub crash_counts-requires : goal.crash_counts-requires
crash_counts-requires c = let (g, m) = shape-inv _ c.requires in let L = limits _ g in rw c.geo_of.ensures (omega (arith, L.t_high))

pub returns : goal.returns
returns c = let (g, m) = shape-inv _ c.requires in let L = limits _ g in let h : 512 ≤ length c.args.card.now = omega (arith, m, L.s_low) in rw (c.word_at.ensures, c.crash_counts.ensures, c.geo_of.ensures, count-here c.args.card.now h)
