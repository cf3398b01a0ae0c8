-- `words::put_bytes` meets its contract: the part that was lent came back as `from`. Assumes nothing.
use native.Mathlib.Omega.{arith}
use Rattle.words.proofs.SpliceLaws.{part-back}
use Rattle.words.proofs.put_bytes.Goals as goal

pub returns : goal.returns
returns c = rw c.copy_from_slice.ensures.after (part-back _ _ _ _ (omega arith) (omega arith) (omega arith))
