-- A write that would change nothing may be left out. Assumes nothing.
use native.Mathlib.Omega.{arith}
use Rattle.std.proofs.lemmas.Grind.{common_steps}
use Rattle.sectors.specs.Sectors.{differs}
use Rattle.sectors.proofs.Fewer.{write-own}
use Rattle.sectors.proofs.copy_changed.Goals as goal

pub returns-then-same : goal.returns-then-same
unfolding differs
returns-then-same c = grind (arith, common_steps, write-own)

pub returns : goal.returns
unfolding differs
returns c = grind (arith, common_steps, write-own)
