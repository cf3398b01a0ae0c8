-- The page that a view shows, and the rules of a view, test by test. Assumes nothing.
use mathlib.Core.Path.{◌≡◌, sym, ap, ◌∙◌}
use mathlib.Core.Bool.{Bool, true, false, not, ◌&&◌}
use mathlib.Core.List.{List, ◌++◌}
use Prim.Native.Nat.{ℕ, suc, ◌+◌, ◌-◌, ◌*◌, ◌≤◌, ◌<◌}
use native.Mathlib.Numerals.{add-one}
use native.Mathlib.Omega.{arith}
use borrow.Author.Tests.{not-true, not-false}
use lib.ListN.{length, take, drop}
use Rattle.words.specs.Lists.{every}
use Rattle.counts.specs.Geometry.{g_p}
use Rattle.words.specs.Bytes.{word_at}
use Rattle.words.proofs.BoolLaws.{both}
use Rattle.words.proofs.EveryLaws.{and-false}
use Rattle.sectors.specs.Sectors.{sec}
use Rattle.sectors.proofs.SectorLaws.{sec-part}
use Rattle.counts.specs.declared.Geo.{Geo}
use Rattle.counts.specs.Inner.{LaidOut}
use Rattle.counts.proofs.TableLaws.{pages-few}
use Rattle.entries.specs.Entries.{entry_ok}
use Rattle.directory.specs.Directory.{entries_of}
use Rattle.apages.specs.Bits.{bits_of, clear_in, clear_bits}
use Rattle.apages.specs.Runs.{page_ok}
use Rattle.apages.proofs.RunLaws.{clear-most}
use Rattle.apages.specs.Index.{group_of, index_in, pair_ok, index_ok, shown_page, page_at, map_from, page_in}
use Rattle.apages.specs.Inner.{PairIn, group_at}
use Rattle.apages.proofs.PassLaws.{index-inv, shown-before}
use Rattle.apages.proofs.ChangeLaws.{group-lent}
use Rattle.apages.proofs.MapLaws.{clear-over}
use Rattle.card.specs.Files.{files_of, cover}
use Rattle.card.specs.Sound.{view_ok}
use Rattle.card.specs.Inner.{RunsOk}
use Rattle.card.proofs.CoverLaws.{entries-runs}

-- the bytes that code lends for sector i
abbrev pub lent : List ℕ → ℕ → List ℕ
lent img i = take (512 * i + 512 - 512 * i) (drop (512 * i) img)

-- and for group p of the index
abbrev pub lent_group : Geo → List ℕ → ℕ → List ℕ
lent_group g img p = take (group_at g p + 16 - group_at g p) (drop (group_at g p) img)

module _ (g : Geo) (tab img : List ℕ) (p : ℕ) {n : ℕ} where
  pub page-here : LaidOut g img → p < g_p g → n ≡ shown_page tab (lent_group g img p) → n ≡ shown_page tab (group_of (index_in g (sec img)) p)
  page-here laid l e =
      let z : group_at g p + 16 - group_at g p ≡ 16 = omega arith in
      let f : g_p g ≤ 16 = pages-few g laid.s in
      e ∙ ap (shown_page tab) (rw z (group-lent g img p (omega arith)))

  pub page-lent : n ≡ shown_page tab (group_of (index_in g (sec img)) p) → lent img n ≡ page_at g tab (sec img) p
  unfolding page_at
  page-lent e = sec-part img n ∙ ap (sec img) e

  pub page-room : LaidOut g img → p < g_p g → PairIn g img → n ≡ shown_page tab (group_of (index_in g (sec img)) p) → 512 * n + 512 ≤ length img
  page-room laid l h e = let r = shown-before g p tab (group_of (index_in g (sec img)) p) l (h p l) in omega (arith, r.1, laid.room, laid.dir)

-- a page has at most 4,096 clear bits
pub clear-page : (s : List ℕ) {c : ℕ} → length s ≡ 512 → c ≡ clear_bits s → c ≤ 4096
clear-page s l e = omega (arith, clear-most s)

-- the clear bits, page by page: the loop's start, a turn, and its end
module _ (g : Geo) (tab img : List ℕ) where
  pub clear-start : 0 + clear_bits (map_from g tab (sec img) 0 (g_p g - 0)) ≡ clear_bits (page_in g tab (sec img))
  unfolding page_in
  clear-start = let e : g_p g - 0 ≡ g_p g = omega arith in let z : 0 + clear_bits (map_from g tab (sec img) 0 (g_p g)) ≡ clear_bits (map_from g tab (sec img) 0 (g_p g)) = omega arith in rw e z

  pub clear-turn : (p r : ℕ) {n c s : ℕ} → p < g_p g → n ≡ shown_page tab (group_of (index_in g (sec img)) p) → c ≡ clear_bits (sec img n) → r + clear_bits (map_from g tab (sec img) p (g_p g - p)) ≡ s
      → r + c + clear_bits (map_from g tab (sec img) (p + 1) (g_p g - (p + 1))) ≡ s
  unfolding map_from
  clear-turn p r {n} l e f h =
      let m : g_p g - p ≡ suc (g_p g - suc p) = omega arith in
      let q : clear_bits (page_at g tab (sec img) p ++ map_from g tab (sec img) (suc p) (g_p g - suc p)) ≡ clear_bits (page_at g tab (sec img) p) + clear_bits (map_from g tab (sec img) (suc p) (g_p g - suc p)) =
      clear-over (page_at g tab (sec img) p) (map_from g tab (sec img) (suc p) (g_p g - suc p)) in
      let x : clear_bits (sec img n) ≡ clear_bits (page_at g tab (sec img) p) = ap clear_bits (sym (sec-part img n) ∙ page-lent g tab img p e) in
      rw add-one (omega (arith, q, x, f, rw m at h))

  pub clear-end : (p r : ℕ) {s : ℕ} → g_p g ≤ p → r + clear_bits (map_from g tab (sec img) p (g_p g - p)) ≡ s → r ≡ s
  unfolding map_from clear_bits bits_of clear_in
  clear-end p r l h = let m : g_p g - p ≡ 0 = omega arith in omega (arith, rw m at h)

index-pair : (g : Geo) (bound : ℕ) (tab ix : List ℕ) → index_ok g bound tab ix ≡ true → (p : ℕ) → p < g_p g → pair_ok g p (word_at (group_of ix p) 8) (word_at (group_of ix p) 12) ≡ true
index-pair g bound tab ix h p l = ((index-inv g bound tab ix h).groups p l).pair

-- ---- a view, as its tests are made: index, entries, page

module _ (g : Geo) (bound : ℕ) (tab img : List ℕ) {a : Bool} (e : a ≡ index_ok g bound tab (lent img (g.t + 1))) where
  pub index-here : a ≡ index_ok g bound tab (index_in g (sec img))
  unfolding index_in
  index-here = e ∙ ap (index_ok g bound tab) (sec-part img (g.t + 1))

  pub view-index : not a ≡ true → false ≡ view_ok g bound tab (sec img)
  unfolding view_ok
  view-index n = let z : index_ok g bound tab (index_in g (sec img)) ≡ false = sym index-here ∙ not-true a n in rw z

  pub view-pair : not a ≡ false → PairIn g img
  view-pair n = index-pair g bound tab (index_in g (sec img)) (sym index-here ∙ not-false a n)

  pub view-entries : {b : Bool} → b ≡ every (entry_ok g bound tab) (entries_of g (sec img)) → not b ≡ true → false ≡ view_ok g bound tab (sec img)
  unfolding view_ok
  view-entries {b} f n =
      let z : every (entry_ok g bound tab) (entries_of g (sec img)) ≡ false = sym f ∙ not-true b n in
      rw z (sym (and-false (index_ok g bound tab (index_in g (sec img)))))

  pub view-page : {b c : Bool} → not a ≡ false → b ≡ every (entry_ok g bound tab) (entries_of g (sec img)) → not b ≡ false
      → c ≡ page_ok g (cover (files_of tab (entries_of g (sec img)))) (page_in g tab (sec img)) → c ≡ view_ok g bound tab (sec img)
  unfolding view_ok
  view-page {b} {c} q f r k =
      let y : index_ok g bound tab (index_in g (sec img)) ≡ true = sym index-here ∙ not-false a q in
      let z : every (entry_ok g bound tab) (entries_of g (sec img)) ≡ true = sym f ∙ not-false b r in
      rw (y, z) k

pub view-runs : (g : Geo) (bound : ℕ) (tab : List ℕ) (es : List (List ℕ)) {b : Bool} → b ≡ every (entry_ok g bound tab) es → not b ≡ false → RunsOk g tab es
view-runs g bound tab es {b} f n = entries-runs g bound tab es (sym f ∙ not-false b n)

-- what a view that passes says: A and B, and the runs
module _ (g : Geo) (bound : ℕ) (tab img : List ℕ) (ok : view_ok g bound tab (sec img) ≡ true) where
  pub passed-pair : PairIn g img
  unfolding view_ok
  passed-pair =
      index-pair g bound tab (index_in g (sec img)) (both (index_ok g bound tab (index_in g (sec img))) (every (entry_ok g bound tab) (entries_of g (sec img)) && page_ok g (cover (files_of tab (entries_of g (sec img)))) (page_in g tab (sec img))) ok).0

  pub passed-runs : RunsOk g tab (entries_of g (sec img))
  unfolding view_ok
  passed-runs =
      entries-runs g bound tab (entries_of g (sec img))
      (both (every (entry_ok g bound tab) (entries_of g (sec img))) (page_ok g (cover (files_of tab (entries_of g (sec img)))) (page_in g tab (sec img)))
      (both (index_ok g bound tab (index_in g (sec img))) (every (entry_ok g bound tab) (entries_of g (sec img)) && page_ok g (cover (files_of tab (entries_of g (sec img)))) (page_in g tab (sec img))) ok).1
      ).0
