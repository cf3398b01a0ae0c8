-- The part of the entry that its name is. Assumes nothing.
use Rattle.entries.proofs.EntryLaws.{name-part}
use Rattle.entries_names.proofs.name_of.Goals as goal

pub returns : goal.returns
returns c = name-part _ c.requires (rw (c.min-n.ensures, c.word_at.ensures))
