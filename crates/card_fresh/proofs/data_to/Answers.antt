-- The page ends where the data does, or before. Assumes nothing.
use native.Mathlib.Omega.{arith}
use Rattle.counts.specs.Geometry.{g_p}
use Rattle.apages.specs.Runs.{data_to}
use Rattle.card_fresh.proofs.data_to.Goals as goal

pub overflow_mul-p : goal.overflow_mul-p
unfolding g_p
overflow_mul-p c = omega arith

pub overflow_sub-g : goal.overflow_sub-g
unfolding g_p
overflow_sub-g c = omega arith

pub returns : goal.returns
unfolding data_to
returns c = (omega arith, omega arith)
