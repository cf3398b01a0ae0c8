-- Both tests passed, so the line is of the files shown. Assumes nothing.
use borrow.Author.Rules.{rules}
use Rattle.card.proofs.SoundTests.{shape-length, shape-laid, shape-limits}
use Rattle.card.proofs.ReadLaws.{line-done}
use Rattle.card_read.proofs.read_line_in.Goals as goal

pub geo_of-g-requires : goal.geo_of-g-requires
geo_of-g-requires c = shape-length _ c.requires.0

pub as_is-v-requires : goal.as_is-v-requires
as_is-v-requires c = shape-limits _ _ c.geo_of-g.ensures c.requires.0

pub invariant_of-image : goal.invariant_of-image
invariant_of-image c = record { laid = shape-laid _ _ c.geo_of-g.ensures c.requires.0 }

pub returns : goal.returns
returns c = line-done _ c.requires.0 c.requires.1 _ _ c.geo_of-g.ensures c.as_is-v.ensures _ (search rules)
