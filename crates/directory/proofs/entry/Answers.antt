-- The bytes that are lent are those of entry j. Assumes nothing.
use Rattle.directory.proofs.DirectoryLaws.{entry-part}
use Rattle.directory.proofs.entry.Goals as goal

pub returns-clause-bytes : goal.returns-clause-bytes
returns-clause-bytes c = entry-part c.args.card.geo c.args.card.bytes.now _ _ c.place_of-at.ensures c.requires
