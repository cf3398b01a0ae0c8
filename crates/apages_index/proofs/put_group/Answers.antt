-- Four words one after the other. Assumes nothing.
use Rattle.words.proofs.WordLaws.{four-words}
use Rattle.apages.specs.Index.{group_bytes}
use Rattle.apages_index.proofs.put_group.Goals as goal

pub returns : goal.returns
unfolding group_bytes
returns c =
    four-words _ _ _ _ _ _ c.put_word.ensures c.put_word-2.ensures c.put_word-3.ensures c.put_word-4.ensures
