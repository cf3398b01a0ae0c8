-- From the ones of both pages taken together, and those of the first. Assumes nothing.
use mathlib.Core.Path.{sym}
use native.Mathlib.Omega.{arith}
use Rattle.apages.proofs.Either.{free-ones, waiting-ones}
use Rattle.store_figures.proofs.FigureLaws.{both-figures}
use Rattle.store_figures.proofs.count.Goals as goal

pub overflow_sub-result : goal.overflow_sub-result
overflow_sub-result c = omega (arith, free-ones _ _ (sym c.requires.2))

pub overflow_sub-result-2 : goal.overflow_sub-result-2
overflow_sub-result-2 c = omega (arith, waiting-ones _ _ (sym c.requires.2))

pub returns-clause-figures : goal.returns-clause-figures
returns-clause-figures c = both-figures (omega (arith, free-ones _ _ (sym c.requires.2))) (omega (arith, waiting-ones _ _ (sym c.requires.2)))

pub returns-clause-few : goal.returns-clause-few
returns-clause-few c = (omega arith, omega (arith, free-ones _ _ (sym c.requires.2)))
