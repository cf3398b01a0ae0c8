-- The bits that are not set. Assumes nothing.
use native.Mathlib.Omega.{arith}
use Rattle.apages.proofs.OnesLaws.{set-clear}
use Rattle.apages_ones.proofs.count_clear.Goals as goal

pub overflow_sub-result : goal.overflow_sub-result
overflow_sub-result c = omega (arith, set-clear c.args.p.now)

pub returns : goal.returns
returns c = omega (arith, set-clear c.args.p.now)
