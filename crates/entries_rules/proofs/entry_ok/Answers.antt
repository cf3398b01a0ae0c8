-- The answers to its parts. Assumes nothing.
use native.Mathlib.Omega.{arith}
use Rattle.entries_rules.proofs.PassHere.{entry_here}
use Rattle.entries_rules.proofs.entry_ok.Goals as goal

pub returns-then-zeros : goal.returns-then-zeros
returns-then-zeros c =
    let e = entry_here c.args.card.geo c.args.bound.0 _ _ c.stamp_of-s.ensures c.alive-live.ensures c.new_or_old-at.ensures.0 in grind arith

pub returns-else-zeros : goal.returns-else-zeros
returns-else-zeros c =
    let e = entry_here c.args.card.geo c.args.bound.0 _ _ c.stamp_of-s.ensures c.alive-live.ensures c.new_or_old-at.ensures.0 in grind arith
