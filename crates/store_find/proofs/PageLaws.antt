-- The two pages of a pair that a search has at hand. Assumes nothing.
use Rattle.std.specs.Prelude.{Option, Some, None, MatchOption}
use mathlib.Core.Path.{◌≡◌, refl, sym, ap, ◌∙◌}
use mathlib.Core.List.{List}
use Prim.Native.Nat.{ℕ, ◌+◌, ◌*◌, ◌≤◌, ◌<◌}
use native.Mathlib.Omega.{arith}
use lib.ListN.{length}
use Rattle.words.specs.Lists.{or_else}
use Rattle.sectors.specs.declared.Sector.{Sector}
use Rattle.sectors.specs.Sectors.{sec}
use Rattle.sectors.proofs.SectorLaws.{sec-length}
use Rattle.counts.specs.declared.Geo.{Geo}
use Rattle.counts.specs.Inner.{LaidOut}
use Rattle.counts.proofs.TableLaws.{pages-few}
use Rattle.apages.specs.Index.{page_at}
use Rattle.apages.specs.Inner.{PairIn, run_within, further}
use Rattle.apages.proofs.LowestLaws.{within-found}
use Rattle.card.proofs.ViewLaws.{page-room}
use Rattle.store_find.specs.declared.Pages.{Pages}
use Rattle.store_find.specs.Inner.{IsPages, found_of}

-- a run found in two sectors ends where the search does
pub pages-inside : (img : List ℕ) (a b k lo hi n : ℕ) {h : Option ℕ} → 512 * a + 512 ≤ length img → 512 * b + 512 ≤ length img → 0 < k → hi ≤ 4096
    → h ≡ run_within k lo hi (sec img a) (sec img b) → h ≡ Some n → n + k ≤ hi
pages-inside img a b k lo hi n la lb some l eh en =
    let ea = sec-length img a la in
    within-found k (sec img a) (sec img b) some (ea ∙ sym (sec-length img b lb)) lo hi n (omega (arith, ea)) (sym eh ∙ en)

module _ (g : Geo) (tp tc img : List ℕ) {x : Pages} (is : IsPages g tp tc (sec img) x) where
  -- what a search in them finds is found in the pages of that pair
  pub pages-found : (k lo hi : ℕ) {p : ℕ} {h : Option ℕ} → x.pair ≡ p → h ≡ further (4096 * x.pair) (run_within k lo hi (sec img x.a.0) (sec img x.b.0))
      → h ≡ further (4096 * p) (run_within k lo hi (page_at g tp (sec img) p) (page_at g tc (sec img) p))
  unfolding page_at
  pages-found k lo hi e h = h ∙ rw (is.first, is.second, e)

  module _ (laid : LaidOut g img) (pairs : PairIn g img) where
    -- they lie in the image, and there are at most 16 pairs
    pub pages-held : (k hi : ℕ) → 0 < k → hi ≤ 4096 → (512 * x.a.0 + 512 ≤ length img) × ((512 * x.b.0 + 512 ≤ length img) × ((x.pair < 16) × ((0 < k) × (hi ≤ 4096))))
    pages-held k hi some l = (
      page-room g tp img x.pair laid is.below pairs is.first,
      (page-room g tc img x.pair laid is.below pairs is.second, (omega (arith, is.below, pages-few g laid.s), (some, l))),
    )

-- ---- one search, or else another

pub or_else-is : (h r : Option ℕ) {P : Type 0} {x : Option ℕ} → MatchOption h P (λ j. r ≡ Some j) → (P → r ≡ x) → r ≡ or_else h x
unfolding or_else
or_else-is None r m f = f m
or_else-is (Some j) r m f = m

pub or_else-cases : (h r : Option Sector) {P : Type 0} {x : Option ℕ} → MatchOption h P (λ s. r ≡ Some s) → (found_of h ≡ None → P → found_of r ≡ x)
    → ((a : ℕ) → found_of h ≡ Some a → Some a ≡ x) → found_of r ≡ x
or_else-cases None r m f g = f refl m
or_else-cases (Some s) r m f g = ap found_of m ∙ g s.0 refl
