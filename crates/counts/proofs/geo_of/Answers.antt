-- The three words are those of sector 0. Assumes nothing.
use Rattle.counts.proofs.TableLaws.{geo-here}
use Rattle.counts.proofs.geo_of.Goals as goal

pub returns : goal.returns
returns c = geo-here _ c.requires c.word_at.ensures c.word_at-2.ensures c.word_at-3.ensures
