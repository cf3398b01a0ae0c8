-- Both tests passed, so the report is of the files and the page shown. Assumes nothing.
use native.Mathlib.Omega.{arith}
use Rattle.card.proofs.SoundTests.{shape-length, shape-laid, shape-limits, sound-pair}
use Rattle.card.proofs.ReadLaws.{read_done}
use Rattle.card_read.proofs.read_in.Goals as goal

pub geo_of-g-requires : goal.geo_of-g-requires
geo_of-g-requires c = shape-length _ c.requires.0

pub as_is-v-requires : goal.as_is-v-requires
as_is-v-requires c = shape-limits _ _ c.geo_of-g.ensures c.requires.0

pub word_at-requires : goal.word_at-requires
word_at-requires c = let l = shape-length _ c.requires.0 in omega arith

pub crash_counts-requires : goal.crash_counts-requires
crash_counts-requires c = (shape-limits _ _ c.geo_of-g.ensures c.requires.0).t

pub invariant_of-image : goal.invariant_of-image
invariant_of-image c = record { laid = shape-laid _ _ c.geo_of-g.ensures c.requires.0 }

pub clear_in-requires : goal.clear_in-requires
clear_in-requires c = sound-pair _ _ c.geo_of-g.ensures c.as_is-v.ensures c.requires.0 c.requires.1

pub returns : goal.returns
returns c = read_done _ c.requires.0 c.requires.1 _ _ c.geo_of-g.ensures c.as_is-v.ensures c.word_at.ensures c.crash_counts.ensures c.file_count.ensures c.clear_in.ensures
