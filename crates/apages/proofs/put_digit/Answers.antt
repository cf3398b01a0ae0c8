-- The bit is set, or cleared. Assumes nothing.
use native.Mathlib.Omega.{arith}
use Rattle.apages.proofs.BitLaws.{digit-set, digit-clear}
use Rattle.apages.proofs.put_digit.Goals as goal

pub returns-then-v : goal.returns-then-v
returns-then-v c = rw c.if-v.true (digit-set _ _ (omega arith) (omega arith))

pub returns-else-v : goal.returns-else-v
returns-else-v c = rw c.if-v.false (digit-clear _ _ (omega arith) (omega arith))
