-- A fit gives the layout; the two searches in their order. Assumes nothing.
use Rattle.std.proofs.Common.{◌∙◌, sym, rules}
use Rattle.words.specs.Lists.{or_else}
use Rattle.store.proofs.ViewLaws.{fit-laid, place_here}
use Rattle.store_find.proofs.put_place.Goals as goal

pub present_view-present-requires : goal.present_view-present-requires
present_view-present-requires c = let l = fit-laid _ _ c.requires in search rules

pub as_is-cut-requires : goal.as_is-cut-requires
as_is-cut-requires c = let l = fit-laid _ _ c.requires in search rules

pub invariant_of-image : goal.invariant_of-image
invariant_of-image c = record { laid = fit-laid _ _ c.requires }

pub returns-in-Some : goal.returns-in-Some
unfolding or_else
returns-in-Some c = place_here _ _ c.present_view-present.ensures c.as_is-cut.ensures (fit-laid _ _ c.requires) _ (sym c.in-Some.is ∙ c.find_name.ensures)

pub returns-in-None : goal.returns-in-None
unfolding or_else
returns-in-None c =
    c.find_free.ensures ∙ place_here _ _ c.present_view-present.ensures c.as_is-cut.ensures (fit-laid _ _ c.requires) _ (sym c.in-None.is ∙ c.find_name.ensures)
