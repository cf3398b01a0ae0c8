-- The geometry is the one that the card stores. Assumes nothing.
use Rattle.card.proofs.SoundTests.{shape-length, shape-laid, sound-of}
use Rattle.card_sound.proofs.sound.Goals as goal

pub geo_of-requires : goal.geo_of-requires
geo_of-requires c = shape-length _ c.requires

pub invariant_of-sound_in : goal.invariant_of-sound_in
invariant_of-sound_in c = record { laid = shape-laid _ _ c.geo_of.ensures c.requires }

pub returns : goal.returns
returns c = sound-of _ _ c.geo_of.ensures c.sound_in.ensures
