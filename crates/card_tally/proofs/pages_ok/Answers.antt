-- The tests of all pages say what the rule says. Assumes nothing.
use native.Mathlib.Omega.{arith}
use Rattle.std.proofs.lemmas.Grind.{common_steps}
use Rattle.counts.proofs.TableLaws.{pages-cover, dir-is}
use Rattle.card.proofs.TallyPages.{clear-fits, tally-pages, last-page}
use Rattle.card_tally.proofs.pages_ok.Goals as goal

pub held-low-requires : goal.held-low-requires
held-low-requires c = (c.requires.1.0, (omega (arith, c.data_first-first.ensures.1), λ h. omega (arith, c.requires.0.past, dir-is c.args.g)))

pub overflow_sub-bits : goal.overflow_sub-bits
overflow_sub-bits c = omega (arith, pages-cover c.args.g, c.pairs-bits.ensures.0)

pub held-high-requires : goal.held-high-requires
held-high-requires c = let n = c.pairs-bits.ensures.0 in (c.requires.1.0, (last-page c.args.g n, λ h. omega (arith, n)))

pub overflow_sub-ones : goal.overflow_sub-ones
overflow_sub-ones c = clear-fits c.args.g _ _ c.requires.0 c.requires.1.0 c.clear_in.ensures c.pairs-bits.ensures.0

pub fixed_bits-requires : goal.fixed_bits-requires
fixed_bits-requires c = (record { s = c.requires.0.s; t = c.requires.0.t; d = c.requires.0.d }, omega (arith, pages-cover c.args.g, c.pairs-bits.ensures.0))

pub returns-then-apart : goal.returns-then-apart
returns-then-apart c =
    let t = c.tally_of-t.ensures in
    let all = tally-pages c.args.g _ c.args.card.now c.requires.0 c.requires.1.0 (λ i. omega (arith, c.type_inv.card i)) _ c.requires.1.1
    c.data_first-first.ensures.0 c.data_first-first.ensures.1 c.pairs-bits.ensures.0
    c.held-low.ensures c.held-high.ensures t.0 c.runs_apart-apart.ensures
    c.clear_in.ensures c.fixed_bits.ensures.0 t.1.0 in
    grind (arith, common_steps, all)

pub returns-else-apart : goal.returns-else-apart
returns-else-apart c =
    let t = c.tally_of-t.ensures in
    let all = tally-pages c.args.g _ c.args.card.now c.requires.0 c.requires.1.0 (λ i. omega (arith, c.type_inv.card i)) _ c.requires.1.1
    c.data_first-first.ensures.0 c.data_first-first.ensures.1 c.pairs-bits.ensures.0
    c.held-low.ensures c.held-high.ensures t.0 c.runs_apart-apart.ensures
    c.clear_in.ensures c.fixed_bits.ensures.0 t.1.0 in
    grind (arith, common_steps, all)
