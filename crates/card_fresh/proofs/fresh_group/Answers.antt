-- Stamp 0, 0, and the two sectors of its pair. Assumes nothing.
use mathlib.Core.Path.{ap, ◌∙◌}
use Prim.Native.Nat.{ℕ}
use Rattle.counts.specs.declared.Stamp.{Stamp}
use Rattle.counts.specs.Geometry.{pair_low}
use Rattle.card.specs.Make.{fresh_group}
use Rattle.card_fresh.proofs.fresh_group.Goals as goal

pub returns : goal.returns
unfolding fresh_group
returns c =
    let zero : Stamp = record { cc = record { 0 = 0 }; txc = record { 0 = 0 } } in
    ap (λ (x : ℕ). record { stamp = zero; a = record { 0 = x }; b = c.pair.result.1 }) c.pair.ensures.low
    ∙ ap (λ (x : ℕ). record { stamp = zero; a = record { 0 = pair_low c.args.g c.args.p }; b = record { 0 = x } }) c.pair.ensures.high
