-- The loop's invariant: what the pass has seen. Assumes nothing.
use mathlib.Core.Path.{◌≡◌, sym, ◌∙◌}
use Rattle.apages.specs.Inner.{busy_at, run_up_to}
use Rattle.apages.proofs.Scan.{run_up_to-busy, run_up_to-free, seen-found, seen_end}
use Rattle.apages.proofs.LowestLaws.{lowest-within}
use Rattle.apages.proofs.run_within.Goals as goal
use Rattle.apages.proofs.run_within.Goals.{then-busy, else-busy}

pub returns-then-have-k : goal.returns-then-have-k
returns-then-have-k c =
    let n = c.next_alike-n in
    let p = c.args.p.now in
    let q = c.args.q.now in
    let l = c.loop-at in
    let e : c.if-busy.have ≡ run_up_to (busy_at p q l.at) l.have n.result = elim c.if-busy.branch [
      | then-busy w ↦ w.have-is ∙ run_up_to-busy _ _ _ c.busy.ensures w.if-busy.true
      | else-busy w ↦ w.have-is ∙ run_up_to-free _ _ _ c.busy.ensures w.if-busy.false
    ] in
    lowest-within _ c.args.p.now c.args.q.now c.requires.2 (sym c.requires.1) c.requires.0 _ _ _ c.requires.3
    (seen-found c.loop-at.invariant _ n.ensures.2 _ _ e c.if-have-k.true n.ensures.1)

pub returns : goal.returns
returns c =
    lowest-within _ c.args.p.now c.args.q.now c.requires.2 (sym c.requires.1) c.requires.0 _ _ _ c.requires.3 (seen_end c.loop-at.invariant _ c.loop-at-test.false)
