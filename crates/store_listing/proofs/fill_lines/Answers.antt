-- Each turn stores the line of the next file and goes on from the entry after it. Assumes nothing.
use mathlib.Core.Path.{◌≡◌, refl, sym, ap, ◌∙◌}
use mathlib.Core.List.{List}
use Prim.Native.Nat.{ℕ, ◌+◌}
use native.Mathlib.Numerals.{add-one}
use native.Mathlib.Omega.{arith}
use lib.ListN.{get_or, set}
use Rattle.std.specs.Prelude.{Ok}
use Rattle.card.specs.declared.Line.{Line}
use Rattle.card.specs.Files.{no_line}
use Rattle.store_listing.specs.Listings.{listing_of, files_at, filled_to}
use Rattle.store_listing.proofs.ListingLaws.{from_start, from_next, line-next, next-there, next-told}
use Rattle.store_listing.proofs.fill_lines.Goals as goal

next-filled_to : (files : List Line) (n : ℕ) (ys : List Line) (r : Line) → r ≡ get_or files n no_line → set (filled_to files n ys) n r ≡ filled_to files (n + 1) ys
unfolding filled_to
next-filled_to files n ys r e = ap (λ (l : Line). set (filled_to files n ys) n l) e ∙ ap (λ (m : ℕ). filled_to files m ys) (sym (add-one n))

pub loop-i-init : goal.loop-i-init
unfolding filled_to
loop-i-init c = (refl, from_start _ _)

pub invariant_of-image : goal.invariant_of-image
invariant_of-image c = record { laid = c.requires.0.1 (omega arith) }

pub unwrap-next-requires : goal.unwrap-next-requires
unwrap-next-requires c = next-there (listing_of (Ok c.args.l)) _ _ _ _ c.loop-i.invariant.1 (omega (arith, c.requires.1)) c.next_line.ensures

pub bounds-lines-i : goal.bounds-lines-i
bounds-lines-i c = omega (arith, c.loop-i.auto.lines, c.requires.0.0)

pub loop-i-preserved : goal.loop-i-preserved
loop-i-preserved c =
    let inv = c.loop-i.invariant in
    let files = files_at (listing_of (Ok c.args.l)) c.args.img.now in
    let i = c.loop-i.i in
    let next = next-told (listing_of (Ok c.args.l)) c.args.img.now _ _ c.unwrap-next.result c.next_line.ensures c.unwrap-next.ensures in
    (rw inv.0 (next-filled_to files i _ _ (line-next files i _ _ inv.1 next.0)), from_next files i _ _ inv.1 next.1)

pub returns : goal.returns
returns c =
    let z : c.loop-i.i ≡ c.args.l.count = omega arith in
    c.loop-i.invariant.0 ∙ ap (λ (m : ℕ). filled_to (files_at (listing_of (Ok c.args.l)) c.args.img.now) m c.args.lines.now) z
