-- F lies in page 0. Assumes nothing.
use native.Mathlib.Omega.{arith}
use Rattle.counts.specs.Geometry.{g_p, g_dir, g_f}
use Rattle.apages.specs.Runs.{data_from}
use Rattle.card_fresh.proofs.data_from.Goals as goal

pub returns-then-p-gt0 : goal.returns-then-p-gt0
unfolding data_from g_f g_dir g_p
returns-then-p-gt0 c = (omega (arith, c.requires), omega arith)

pub returns-else-p-gt0 : goal.returns-else-p-gt0
unfolding data_from
returns-else-p-gt0 c = (omega arith, omega arith)
