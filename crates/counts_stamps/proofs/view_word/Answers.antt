-- Past the table, the view's own word, or the table's. Assumes nothing.
use mathlib.Core.Path.{sym, ◌∙◌}
use native.Mathlib.Omega.{arith}
use borrow.Author.Tests.{eqb-true}
use Rattle.std.proofs.lemmas.Grind.{common_steps}
use Rattle.counts.proofs.GeoLaws.{counted}
use Rattle.counts.proofs.TableLaws.{view-past, view-own, view-other}
use Rattle.counts_stamps.proofs.view_word.Goals as goal

pub returns-then-crash_counts-cc : goal.returns-then-crash_counts-cc
returns-then-crash_counts-cc c = grind (arith, common_steps, counted, view-past)

pub returns-then-eq : goal.returns-then-eq
returns-then-eq c = sym (view-own _ _ c.args.card.laid _ _ (omega (arith, counted c.args.card.geo c.crash_counts.ensures)) (eqb-true _ _ (sym c.eq.ensures ∙ c.if-eq.true)))

pub returns : goal.returns
returns c = grind (arith, common_steps, view-other)
