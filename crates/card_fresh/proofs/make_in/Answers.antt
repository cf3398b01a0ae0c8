-- Block, index and pages written over zeros. Assumes nothing.
use mathlib.Core.Path.{refl, ◌∙◌}
use Rattle.card.proofs.MakeLaws.{fresh_start}
use Rattle.card_fresh.proofs.make_in.Goals as goal

pub returns : goal.returns
returns c = c.fresh_pages.ensures ∙ fresh_start _ _ c.requires.1 (c.fill.ensures.after (λ y h. h)) refl refl c.put_block.ensures c.put_index.ensures
