-- `words::same` meets its contract: what was seen, and what is left of both. Assumes nothing.
use native.Mathlib.Omega.{arith}
use Rattle.words.proofs.EveryLaws.{eq_list-go, eq_list-end, eq_list-other}
use Rattle.words.proofs.same.Goals as goal

pub returns-then-a-b : goal.returns-then-a-b
returns-then-a-b c = eq_list-other _ _ c.if-a-b.true

pub loop-i-preserved : goal.loop-i-preserved
loop-i-preserved c = let l = c.loop-i in
    let a = c.args in
    eq_list-go a.a.now a.b.now l.i l.ok (omega arith) (omega arith) l.invariant

pub returns : goal.returns
returns c = let a = c.args in
    eq_list-end a.a.now a.b.now c.loop-i.i c.loop-i.ok (omega arith) (omega arith) c.loop-i.invariant
