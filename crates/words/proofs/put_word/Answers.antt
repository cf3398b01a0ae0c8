-- `words::put_word` meets its contract: the bytes that the library gives are those of the word. Assumes nothing.
use borrow.Author.Rules.{rules}
use Rattle.words.specs.Bytes.{word_bytes}
use Rattle.words.proofs.put_word.Goals as goal

pub returns : goal.returns
unfolding word_bytes
returns c = search rules
