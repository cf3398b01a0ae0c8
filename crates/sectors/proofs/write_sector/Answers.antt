-- The part that was lent came back as `from`, and the rest is untouched. Assumes nothing.
use native.Mathlib.Omega.{arith}
use Rattle.words.specs.Lists.{set_part}
use Rattle.words.proofs.SpliceLaws.{part-back}
use Rattle.sectors.specs.Sectors.{set_sec}
use Rattle.sectors.proofs.write_sector.Goals as goal

pub returns : goal.returns
unfolding set_sec set_part
returns c = rw (c.offset-at.ensures, c.copy_from_slice.ensures.after) (part-back _ _ _ _ (omega arith) (omega arith) (omega arith))
