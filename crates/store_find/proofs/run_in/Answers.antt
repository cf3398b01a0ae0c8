-- A fit gives the layout and the pairs. Assumes nothing.
use mathlib.Core.Path.{sym, ◌∙◌}
use native.Mathlib.Omega.{arith}
use borrow.Author.Rules.{rules}
use Rattle.apages.specs.Runs.{run_for}
use Rattle.apages.proofs.LowestLaws.{run-for-some}
use Rattle.store.specs.Edit.{run_in}
use Rattle.store.proofs.ViewLaws.{fit-laid, fit-pair, run-here}
use Rattle.store_find.proofs.run_in.Goals as goal

pub returns-then-k-eq0 : goal.returns-then-k-eq0
unfolding run_in run_for
returns-then-k-eq0 c = rw c.if-k-eq0.true

pub present_view-present-requires : goal.present_view-present-requires
present_view-present-requires c = let l = fit-laid _ _ c.requires.0 in search rules

pub as_is-cut-requires : goal.as_is-cut-requires
as_is-cut-requires c = let l = fit-laid _ _ c.requires.0 in search rules

pub goal_in-requires : goal.goal_in-requires
goal_in-requires c = (fit-laid _ _ c.requires.0, (fit-pair _ _ c.requires.0, (c.requires.1, omega (arith, c.if-k-eq0.false))))

pub returns : goal.returns
returns c = run-here _ _ c.present_view-present.ensures c.as_is-cut.ensures (fit-laid _ _ c.requires.0) _ _ (c.goal_in.ensures ∙ sym (run-for-some _ _ _ _ c.if-k-eq0.false))
