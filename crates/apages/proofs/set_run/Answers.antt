-- The loop's invariant: the bits of the run below sector n are set. Assumes nothing.
use mathlib.Core.Path.{sym, ◌∙◌}
use native.Mathlib.Omega.{arith}
use borrow.Author.Rules.{rules}
use Rattle.apages.proofs.ByteLaws.{run-next}
use Rattle.apages.proofs.RunLaws.{run_none, run-done}
use Rattle.apages.proofs.set_run.Goals as goal

pub loop-n-init : goal.loop-n-init
loop-n-init c = (search rules, search rules, run-done _ _ 0 _ _ (sym (run_none _ _ _)) (omega arith), search rules)

pub loop-n-preserved : goal.loop-n-preserved
loop-n-preserved c =
    let put = c.put_next-n.ensures in
    let inv = c.loop-n.invariant in
    (omega (arith, inv.0), put.2, run-next _ _ _ _ _ inv.0 inv.2 put.0, c.put_next-n.auto.p ∙ inv.3)
