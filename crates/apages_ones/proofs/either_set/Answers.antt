-- The ones of each two words add up to those of both pages taken together. Assumes nothing.
use mathlib.Core.Path.{sym, ap, ◌∙◌}
use Prim.Native.Nat.{ℕ, ◌/◌, ◌^◌}
use native.Mathlib.Omega.{arith}
use borrow.Author.Rules.{rules}
use lib.Bits.{bit_or}
use lib.Count.{ones}
use lib.ListN.{length}
use Rattle.std.specs.Simd.{first_chunks}
use Rattle.std.proofs.lemmas.Iterator.{YieldsList-from_slice, YieldsList-from_zip, YieldsList-from_map}
use Rattle.std.proofs.lemmas.Iterator.Consumers.{YieldsList-at, sum_from_yields_List, fits_from_yields_list}
use Rattle.apages.specs.Ones.{word64_at}
use Rattle.apages.proofs.Words64.{both-sum, both-few}
use Rattle.apages_ones.proofs.either_set.Goals as goal

pub sum-requires-clause-fits : goal.sum-requires-clause-fits
sum-requires-clause-fits c =
    let p = c.args.p.now in
    let q = c.args.q.now in
    let k = length p / 8 in
    let few = both-few p q (sym c.requires.2) (λ j. omega (arith, c.type_inv.p j)) (λ j. omega (arith, c.type_inv.q j)) k (omega arith) in
    let first = YieldsList-at c.zip.ensures.first (YieldsList-from_slice (first_chunks 8 k p) (c.iter.ensures.rest ∙ c.words_of.ensures)) in
    let second = YieldsList-from_slice (first_chunks 8 k q) (c.zip.ensures.second.0 ∙ c.words_of-2.ensures ∙ ap (λ (n : ℕ). first_chunks 8 (n / 8) q) c.requires.2) in
    fits_from_yields_list c.map.result (2 ^ 32)
    (YieldsList-from_map _ (λ w. ones (bit_or (word64_at w.0 0) (word64_at w.1 0))) (YieldsList-at c.map.ensures.source (YieldsList-from_zip first second)) c.map.ensures.closure (λ x r f h. search rules))
    (omega arith)

pub returns : goal.returns
returns c =
    let p = c.args.p.now in
    let q = c.args.q.now in
    let k = length p / 8 in
    let first = YieldsList-at c.zip.ensures.first (YieldsList-from_slice (first_chunks 8 k p) (c.iter.ensures.rest ∙ c.words_of.ensures)) in
    let second = YieldsList-from_slice (first_chunks 8 k q) (c.zip.ensures.second.0 ∙ c.words_of-2.ensures ∙ ap (λ (n : ℕ). first_chunks 8 (n / 8) q) c.requires.2) in
    sum_from_yields_List c.map.result _ c.sum.ensures.ran
    (YieldsList-from_map _ (λ w. ones (bit_or (word64_at w.0 0) (word64_at w.1 0))) (YieldsList-at c.map.ensures.source (YieldsList-from_zip first second)) c.map.ensures.closure (λ x r f h. search rules))
    ∙ both-sum p q (sym c.requires.2) (λ j. omega (arith, c.type_inv.p j)) (λ j. omega (arith, c.type_inv.q j)) k (omega arith)
