-- The bytes one by one. Assumes nothing.
use mathlib.Core.Path.{◌∙◌}
use Rattle.apages.proofs.Words64.{word64-bytes}
use Rattle.apages_ones.proofs.word64.Goals as goal

pub returns : goal.returns
returns c = c.from_le_bytes.ensures ∙ word64-bytes c.args.w.now
