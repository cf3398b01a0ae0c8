-- What the listing says is what `read_list` says. Assumes nothing.
use mathlib.Core.Path.{subst, sym, ◌∙◌}
use lib.ListN.{length}
use Rattle.std.proofs.lemmas.Result.{err_from_is_err_and}
use Rattle.card.specs.Plan.{refused, done}
use Rattle.card.specs.Reading.{read_list}
use Rattle.store_listing.specs.Listings.{Listing, no_listing, filled_to}
use Rattle.store_listing.proofs.ListingLaws.{Ready, Fills}
use Rattle.store_listing.proofs.CardListing.{read-ready, read-fills}
use Rattle.store_listing.proofs.read_list.Goals as goal

pub returns-in_err-l : goal.returns-in_err-l
unfolding no_listing refused filled_to
returns-in_err-l c =
    let p = err_from_is_err_and c.from_residual.result c.from_residual.ensures.1 in
    let f = subst (λ (l : Listing). Fills l c.args.card.now c.args.lines.now (read_list c.args.card.now c.args.lines.now)) (sym c.in_err-l.ensures) (read-fills c.args.card.now c.args.lines.now) in
    (rw (p.1, p.2) f.0, f.1)

pub fill_lines-requires : goal.fill_lines-requires
fill_lines-requires c = subst (λ (l : Listing). Ready l c.args.card.now (length c.args.lines.now)) (sym c.in_ok-l.ensures) (read-ready c.args.card.now (length c.args.lines.now))

pub returns : goal.returns
unfolding done
returns c =
    let f = subst (λ (l : Listing). Fills l c.args.card.now c.args.lines.now (read_list c.args.card.now c.args.lines.now)) (sym c.in_ok-l.ensures) (read-fills c.args.card.now c.args.lines.now) in
    (f.0, c.fill_lines.ensures ∙ f.1)
