-- Both figures of two pages by their ones, and a figure of two maps page by page: the loop's start, a turn and its end. Assumes nothing.
use mathlib.Core.Path.{◌≡◌, sym, ◌∙◌}
use mathlib.Core.List.{List, [], ◌++◌}
use Prim.Native.Nat.{ℕ, suc, ◌+◌, ◌-◌, ◌*◌, ◌≤◌, ◌<◌}
use native.Mathlib.Numerals.{add-one}
use native.Mathlib.Omega.{arith}
use lib.ListN.{length}
use Rattle.sectors.specs.Sectors.{sec}
use Rattle.counts.specs.declared.Geo.{Geo}
use Rattle.counts.specs.Geometry.{g_p}
use Rattle.apages.specs.Inner.{either}
use Rattle.apages.proofs.Either.{free-ones, waiting-ones}
use Rattle.apages.specs.Ones.{set_bits}
use Rattle.apages.specs.Free.{free_in, waiting_in}
use Rattle.apages.specs.Index.{group_of, index_in, shown_page, page_at, map_from, page_in}
use Rattle.store.specs.declared.Figures.{Figures}

pub both-figures : {f w m n : ℕ} → f ≡ m → w ≡ n → ◌≡◌ {A = Figures} (record { free = f; waiting = w }) (record { free = m; waiting = n })
both-figures e h = rw (e, h)

-- ---- a page

-- by the ones of both pages taken together, and those of the first
module _ (p q : List ℕ) (alike : length q ≡ length p) {busy own : ℕ} (eb : busy ≡ set_bits (either p q)) (eo : own ≡ set_bits p) where
  pub by_ones : ◌≡◌ {A = Figures} (record { free = 8 * length p - busy; waiting = busy - own }) (record { free = free_in p q; waiting = waiting_in p q })
  by_ones = both-figures (omega (arith, free-ones p q (sym alike))) (omega (arith, waiting-ones p q (sym alike)))

-- ---- page by page

-- what a count over two maps is of maps one behind the other
abbrev pub Over : (List ℕ → List ℕ → ℕ) → Type 0
Over f = (p q u v : List ℕ) → length p ≡ length q → f (p ++ u) (q ++ v) ≡ f p q + f u v

-- the figure over the pairs from p on
unfoldable pub left_in : (List ℕ → List ℕ → ℕ) → Geo → List ℕ → List ℕ → List ℕ → ℕ → ℕ
left_in f g tp tc img p = f (map_from g tp (sec img) p (g_p g - p)) (map_from g tc (sec img) p (g_p g - p))

module _ (f : List ℕ → List ℕ → ℕ) (over : Over f) (none : f [] [] ≡ 0) (g : Geo) (tp tc img : List ℕ) where
  pub figure-start : 0 + left_in f g tp tc img 0 ≡ f (page_in g tp (sec img)) (page_in g tc (sec img))
  unfolding left_in page_in
  figure-start = let e : g_p g - 0 ≡ g_p g = omega arith in rw e (omega arith)

  pub figure-turn : (p r : ℕ) {a b : ℕ} {u v : List ℕ} {c s : ℕ} → p < g_p g → a ≡ shown_page tp (group_of (index_in g (sec img)) p) → b ≡ shown_page tc (group_of (index_in g (sec img)) p)
      → u ≡ sec img a → v ≡ sec img b → length u ≡ 512 → length v ≡ 512 → c ≡ f u v → r + left_in f g tp tc img p ≡ s → r + c + left_in f g tp tc img (p + 1) ≡ s
  unfolding left_in map_from page_at
  figure-turn p r {u = u} {v = v} {s = s} l ea eb eu ev lu lv ec h =
      let m : g_p g - p ≡ suc (g_p g - suc p) = omega arith in
      let x = map_from g tp (sec img) (suc p) (g_p g - suc p) in
      let y = map_from g tc (sec img) (suc p) (g_p g - suc p) in
      let q : r + f (u ++ x) (v ++ y) ≡ s = rw (eu, ev, ea, eb) (rw m at h) in
      rw add-one (omega (arith, q, ec, over u v x y (lu ∙ sym lv)))

  pub figure-end : (p r : ℕ) {s : ℕ} → g_p g ≤ p → r + left_in f g tp tc img p ≡ s → r ≡ s
  unfolding left_in map_from
  figure-end p r l h = let m : g_p g - p ≡ 0 = omega arith in omega (arith, none, rw m at h)
