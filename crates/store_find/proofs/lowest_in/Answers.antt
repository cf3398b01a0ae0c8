-- What is found in the pages that are left. Assumes nothing.
use mathlib.Core.Path.{ap, refl}
use native.Mathlib.Omega.{arith}
use Rattle.apages.proofs.ImageSearch.{search-found, search-go, search-end}
use Rattle.store_find.specs.Inner.{found_of}
use Rattle.store_find.proofs.PageLaws.{pages-found, pages-held}
use Rattle.store_find.proofs.lowest_in.Goals as goal

pub loop-p-init : goal.loop-p-init
loop-p-init c = refl

pub pages_at-x-requires : goal.pages_at-x-requires
pages_at-x-requires c = (c.requires.0, omega (arith, c.requires.1.1.0))

pub run_on-requires : goal.run_on-requires
run_on-requires c =
    pages-held c.args.g _ _ c.args.work.now c.pages_at-x.ensures.0 c.requires.0 c.requires.1.0 _ _ c.requires.1.1.1 (omega arith)

pub returns-in-Some : goal.returns-in-Some
returns-in-Some c =
    search-found c.args.g _ _ c.args.work.now _ c.requires.0 c.requires.1.0 c.requires.1.1.1 _ _ (omega arith) c.requires.1.1.0
    (pages-found c.args.g _ _ c.args.work.now c.pages_at-x.ensures.0 _ _ _ c.pages_at-x.ensures.1 c.run_on.ensures) c.loop-p.invariant _ (ap found_of c.in-Some.is)

pub loop-p-preserved : goal.loop-p-preserved
loop-p-preserved c =
    search-go c.args.g _ _ c.args.work.now _ c.requires.0 c.requires.1.0 c.requires.1.1.1 _ _ (omega arith) c.requires.1.1.0
    (pages-found c.args.g _ _ c.args.work.now c.pages_at-x.ensures.0 _ _ _ c.pages_at-x.ensures.1 c.run_on.ensures) c.loop-p.invariant (ap found_of c.in_default.is)

pub returns : goal.returns
returns c =
    search-end c.args.g _ _ c.args.work.now _ c.requires.0 c.requires.1.0 c.requires.1.1.1 _ _ (omega arith) c.loop-p.invariant
