-- The bytes lent are the content of the run. Assumes nothing.
use Rattle.card.proofs.LineLaws.{content-lent}
use Rattle.card_files.proofs.copy_content.Goals as goal

pub returns : goal.returns
returns c = content-lent _ _ _ c.requires.0 c.requires.1 c.offset-at.ensures c.copy_from_slice.ensures.after
