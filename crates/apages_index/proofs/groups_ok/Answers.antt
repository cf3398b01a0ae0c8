-- The walk over the groups, each with its number, answers for every group. Assumes nothing.
use mathlib.Core.Path.{refl, ap, ◌∙◌}
use Prim.Native.Nat.{◌/◌}
use native.Mathlib.Omega.{arith}
use borrow.Author.Rules.{rules}
use lib.ListN.{length}
use Rattle.std.specs.Simd.{first_chunks}
use Rattle.std.proofs.lemmas.Iterator.{YieldsList-from_range, YieldsList-from_slice, YieldsList-from_zip}
use Rattle.std.proofs.lemmas.Iterator.Consumers.{YieldsList-at}
use Rattle.std.proofs.lemmas.Iterator.Search.{all_from_yields_List}
use Rattle.sectors.specs.Sectors.{sec}
use Rattle.counts.specs.Stamps.{table_in}
use Rattle.apages.specs.Index.{group_ok, every_group}
use Rattle.apages.proofs.ChangeLaws.{groups-walked}
use Rattle.apages_index.proofs.groups_ok.Goals as goal

pub returns : goal.returns
returns c =
    let a = c.args in
    let ix = a.ix.now in
    let n = c.pairs.result in
    let ok = group_ok a.card.geo a.bound.0 (table_in a.card.geo a.v (sec a.card.bytes.now)) in
    let numbers = YieldsList-at c.zip.ensures.first (YieldsList-from_range 0 n n refl (omega arith)) in
    let groups = YieldsList-from_slice (first_chunks 16 (length ix / 16) ix) (c.zip.ensures.second.0 ∙ c.as_chunks.ensures.front) in
    all_from_yields_List (λ w. ok w.0 w.1) c.all.new.self _ _ c.all.ensures.ran (YieldsList-from_zip numbers groups) (λ x b q k. search rules)
    ∙ groups-walked ok ix n (length ix / 16) (omega arith) ∙ ap (every_group ok ix 0) c.pairs.ensures.0
