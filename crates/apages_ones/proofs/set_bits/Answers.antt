-- The ones of the page's words add up to those of the page. Assumes nothing.
use mathlib.Core.Path.{◌∙◌}
use Prim.Native.Nat.{◌/◌, ◌^◌}
use native.Mathlib.Omega.{arith}
use borrow.Author.Rules.{rules}
use lib.Count.{ones}
use lib.ListN.{length}
use Rattle.std.specs.Simd.{first_chunks}
use Rattle.std.proofs.lemmas.Iterator.{YieldsList-from_slice, YieldsList-from_map}
use Rattle.std.proofs.lemmas.Iterator.Consumers.{YieldsList-at, sum_from_yields_List, fits_from_yields_list}
use Rattle.apages.specs.Ones.{word64_at}
use Rattle.apages.proofs.Words64.{page-sum, page-few}
use Rattle.apages_ones.proofs.set_bits.Goals as goal

pub sum-requires-clause-fits : goal.sum-requires-clause-fits
sum-requires-clause-fits c =
    let p = c.args.p.now in
    let k = length p / 8 in
    let few = page-few p (λ j. omega (arith, c.type_inv.p j)) k (omega arith) in
    fits_from_yields_list c.map.result (2 ^ 32)
    (YieldsList-from_map _ (λ w. ones (word64_at w 0)) (YieldsList-at c.map.ensures.source (YieldsList-from_slice (first_chunks 8 k p) (c.iter.ensures.rest ∙ c.words_of.ensures))) c.map.ensures.closure (λ x r q h. search rules))
    (omega arith)

pub returns : goal.returns
returns c =
    let p = c.args.p.now in
    let k = length p / 8 in
    sum_from_yields_List c.map.result _ c.sum.ensures.ran
    (YieldsList-from_map _ (λ w. ones (word64_at w 0)) (YieldsList-at c.map.ensures.source (YieldsList-from_slice (first_chunks 8 k p) (c.iter.ensures.rest ∙ c.words_of.ensures))) c.map.ensures.closure (λ x r q h. search rules))
    ∙ page-sum p (λ j. omega (arith, c.type_inv.p j)) k (omega arith)
