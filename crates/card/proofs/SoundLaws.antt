-- Soundness and a view's rules taken apart, each test by its name, and put together. Assumes nothing.
use mathlib.Core.Path.{◌≡◌}
use mathlib.Core.Bool.{true}
use mathlib.Core.List.{List}
use Prim.Native.Nat.{ℕ, ◌*◌, ◌≤◌, ◌<◌}
use borrow.Author.Tests.{leb-true, le-leb, eqb-true, eq-eqb}
use lib.Dec.{leb}
use lib.ListN.{length, drop, get_or}
use Rattle.words.specs.Bytes.{word_at}
use Rattle.words.specs.Lists.{every, pairwise, is_zero}
use Rattle.words.proofs.EveryLaws.{every-at}
use Rattle.words.proofs.BoolLaws.{both, join}
use Rattle.sectors.specs.Sectors.{Cells, sec}
use Rattle.counts.specs.declared.Geo.{Geo}
use Rattle.counts.specs.Geometry.{g_n, g_p, g_dir, geo_ok, geo_of, count_of, table_of, first_page}
use Rattle.counts.specs.Stamps.{table_ok}
use Rattle.entries.specs.Entries.{entry_ok}
use Rattle.entries.proofs.PassLaws.{Passes, passes}
use Rattle.directory.specs.Directory.{entries_of, apart}
use Rattle.apages.specs.Runs.{page_ok}
use Rattle.apages.specs.Index.{group_of, index_in, pair_ok, index_ok, shown_page, page_in}
use Rattle.apages.proofs.PassLaws.{index-inv, shown-before}
use Rattle.card.specs.Files.{files_of, cover}
use Rattle.card.specs.Sound.{view_ok, sound_in, shape_ok}

pub record View (g : Geo) (bound : ℕ) (tab : List ℕ) (k : Cells) : Type 0 where
  pub index : index_ok g bound tab (index_in g k) ≡ true
  pub entries : every (entry_ok g bound tab) (entries_of g k) ≡ true
  pub page : page_ok g (cover (files_of tab (entries_of g k))) (page_in g tab k) ≡ true

pub view-inv : (g : Geo) (bound : ℕ) (tab : List ℕ) (k : Cells) → view_ok g bound tab k ≡ true → View g bound tab k
unfolding view_ok
view-inv g bound tab k h =
    let (a, r) = both (index_ok g bound tab (index_in g k)) _ h in
    let (b, c) = both (every (entry_ok g bound tab) (entries_of g k)) _ r in
    record { index = a; entries = b; page = c }

pub view-intro : (g : Geo) (bound : ℕ) (tab : List ℕ) (k : Cells) → View g bound tab k → view_ok g bound tab k ≡ true
unfolding view_ok
view-intro g bound tab k U = join _ _ U.index (join _ _ U.entries U.page)

-- one entry of a view that passes
pub entry-passes : (g : Geo) (bound : ℕ) (tab : List ℕ) (k : Cells) (j : ℕ) (e : List ℕ) → View g bound tab k → j < length (entries_of g k)
    → Passes g bound tab (get_or (entries_of g k) j e)
entry-passes g bound tab k j e U h = passes g bound tab _ (every-at (entry_ok g bound tab) (entries_of g k) j e h U.entries)

-- A and B of each group
pub view-pair : (g : Geo) (bound : ℕ) (tab : List ℕ) (k : Cells) → View g bound tab k → (p : ℕ) → p < g_p g → pair_ok g p (word_at (group_of (index_in g k) p) 8) (word_at (group_of (index_in g k) p) 12) ≡ true
view-pair g bound tab k U p l = ((index-inv g bound tab (index_in g k) U.index).groups p l).pair

-- the pages that a view shows lie between the index and the directory
pub view-page : (g : Geo) (bound : ℕ) (tab : List ℕ) (k : Cells) → View g bound tab k → (p : ℕ) → p < g_p g
    → (first_page g ≤ shown_page tab (group_of (index_in g k) p)) × (shown_page tab (group_of (index_in g k) p) < g_dir g)
view-page g bound tab k U p l = shown-before g p tab (group_of (index_in g k) p) l (view-pair g bound tab k U p l)

pub record Sound (g : Geo) (k : Cells) : Type 0 where
  pub small : count_of k ≤ g_n g
  pub tail : every is_zero (drop 16 (k 0)) ≡ true
  pub tab : table_ok g (count_of k) (table_of g k) ≡ true
  pub view : view_ok g (count_of k) (table_of g k) k ≡ true
  pub alone : pairwise (apart (table_of g k) (table_of g k)) (entries_of g k) ≡ true

pub sound-inv : (g : Geo) (k : Cells) → sound_in g k ≡ true → Sound g k
unfolding sound_in
sound-inv g k h =
    let (r₁, e) = both _ (pairwise (apart (table_of g k) (table_of g k)) (entries_of g k)) h in
    let (r₂, d) = both _ (view_ok g (count_of k) (table_of g k) k) r₁ in
    let (r₃, c) = both _ (table_ok g (count_of k) (table_of g k)) r₂ in
    let (a, b) = both (leb (count_of k) (g_n g)) _ r₃ in
    record { small = leb-true _ _ a; tail = b; tab = c; view = d; alone = e }

pub sound-intro : (g : Geo) (k : Cells) → Sound g k → sound_in g k ≡ true
unfolding sound_in
sound-intro g k S = join _ _ (join _ _ (join _ _ (join _ _ (le-leb _ _ S.small) S.tail) S.tab) S.view) S.alone

-- the view of a sound card
pub sound-view : (g : Geo) (k : Cells) → sound_in g k ≡ true → View g (count_of k) (table_of g k) k
sound-view g k h = view-inv g (count_of k) (table_of g k) k (sound-inv g k h).view

pub shape-inv : (img : List ℕ) → shape_ok img ≡ true → (geo_ok (geo_of (sec img)) ≡ true) × (length img ≡ 512 * (geo_of (sec img)).s)
unfolding shape_ok
shape-inv img h = let (a, b) = both (geo_ok (geo_of (sec img))) _ h in (a, eqb-true _ _ b)

pub shape-intro : (g : Geo) (img : List ℕ) → geo_of (sec img) ≡ g → geo_ok g ≡ true → length img ≡ 512 * g.s → shape_ok img ≡ true
unfolding shape_ok
shape-intro g img e ok l = rw (e, ok) (eq-eqb (length img) (512 * g.s) l)
