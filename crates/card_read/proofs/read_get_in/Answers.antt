-- Both tests passed, so get is over the view that takes the table as it is. Assumes nothing.
use Rattle.card.proofs.SoundTests.{shape-length, shape-laid, shape-limits, shape-room, sound-runs}
use Rattle.card.proofs.ReadLaws.{get-done}
use Rattle.card_read.proofs.read_get_in.Goals as goal

pub geo_of-g-requires : goal.geo_of-g-requires
geo_of-g-requires c = shape-length _ c.requires.0

pub as_is-v-requires : goal.as_is-v-requires
as_is-v-requires c = shape-limits _ _ c.geo_of-g.ensures c.requires.0

pub invariant_of-image : goal.invariant_of-image
invariant_of-image c = record { laid = shape-laid _ _ c.geo_of-g.ensures c.requires.0 }

pub get_in-requires : goal.get_in-requires
get_in-requires c = (shape-room _ _ c.geo_of-g.ensures c.requires.0, sound-runs _ _ c.geo_of-g.ensures c.as_is-v.ensures c.requires.0 c.requires.1)

pub returns : goal.returns
returns c = get-done _ c.requires.0 c.requires.1 _ _ c.geo_of-g.ensures c.as_is-v.ensures _ _ c.get_in.ensures
