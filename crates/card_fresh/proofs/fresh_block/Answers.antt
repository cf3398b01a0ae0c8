-- Four words put into a fresh sector. Assumes nothing.
use Rattle.card.proofs.BuiltLaws.{block-built}
use Rattle.card_fresh.proofs.fresh_block.Goals as goal

pub returns : goal.returns
returns c =
    block-built 0 _ c.put_word.ensures c.put_word-2.ensures c.put_word-3.ensures c.put_word-4.ensures
