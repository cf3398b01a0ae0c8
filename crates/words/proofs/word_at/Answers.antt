-- `words::word_at` meets its contract: the word, byte by byte, is what the library adds up. Assumes nothing.
use borrow.Author.Rules.{rules}
use Rattle.words.proofs.WordLaws.{word_at-get_or}
use Rattle.words.proofs.word_at.Goals as goal

pub returns : goal.returns
returns c = rw word_at-get_or (search rules)
