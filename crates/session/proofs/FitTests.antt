-- The fit test's parts as code computes them. Assumes nothing.
use mathlib.Core.Path.{◌≡◌, refl, sym, ◌∙◌}
use mathlib.Core.Bool.{Bool, true, false, not, ◌&&◌}
use mathlib.Core.List.{List}
use Prim.Native.Nat.{ℕ, ◌+◌, ◌-◌, ◌*◌, ◌≤◌}
use native.Mathlib.Omega.{arith}
use borrow.Author.Tests.{not-false, eqb-true}
use lib.Dec.{leb, ltb, eqb}
use lib.ListN.{length, take, drop, get_or}
use Rattle.words.specs.Lists.{every, pairwise, is_zero, part}
use Rattle.words.specs.Bytes.{word_at}
use Rattle.words.proofs.BoolLaws.{both}
use Rattle.words.proofs.WordLaws.{word-part}
use Rattle.words.proofs.PartLaws.{drop-take}
use Rattle.sectors.specs.Sectors.{Cells, sec}
use Rattle.counts.specs.Geometry.{g_n, geo_ok, table_of}
use Rattle.counts.specs.Stamps.{max_tx, word_max, as_is, table_in}
use Rattle.counts.specs.Inner.{LaidOut}
use Rattle.counts.proofs.TableLaws.{ok-laid, as_is_lem}
use Rattle.directory.specs.Directory.{entries_of, apart}
use Rattle.apages.specs.Index.{index_in}
use Rattle.card.specs.Sound.{view_ok}
use Rattle.session.specs.declared.Opened.{Opened}
use Rattle.session.specs.Views.{present_table, cut_table}
use Rattle.session.specs.Fits.{sizes_ok, head_ok, word_ok, entry_at_most, index_at_most, table_fits, views_fit, stamps_fit, fits_in}

-- ---- the test in three parts

and_assoc : (a b c : Bool) → (a && b && c) ≡ (a && (b && c))
and_assoc true b c = refl
and_assoc false b c = refl

regroup : (a b c d e f g h i : Bool) → (a && b && c && d && e && f && g && h && i) ≡ (a && b && (c && d) && (e && f && g) && (h && i))
regroup true true true true true true true h i = refl
regroup true true true true true true false h i = refl
regroup true true true true true false g h i = refl
regroup true true true true false f g h i = refl
regroup true true true false e f g h i = refl
regroup true true false d e f g h i = refl
regroup true false c d e f g h i = refl
regroup false b c d e f g h i = refl

-- the counts and the table: sector 0 first, then one test after the other, as code makes them
module _ (s : Opened) (k : Cells) {h : Bool} (eh : h ≡ head_ok s k) where
  pub table_here : {w m z : Bool} → not h ≡ false → w ≡ word_ok s.worn s.t.0 (get_or (table_of s.geo k) s.c.0 0) → m ≡ every word_max (table_of s.geo k)
      → z ≡ every is_zero (drop (s.c.0 + 1) (table_of s.geo k)) → (w && m && z) ≡ table_fits s k
  unfolding table_fits
  table_here {w} {m} {z} n ew em ez =
      let q : head_ok s k ≡ true = sym eh ∙ not-false h n in
      and_assoc w m z ∙ rw (q, ew, em, ez)

-- the text of the paragraph, one clause after the other
pub fits-text : (s : Opened) (k : Cells) → (head_ok s k && word_ok s.worn s.t.0 (get_or (table_of s.geo k) s.c.0 0) && every word_max (table_of s.geo k)
    && every is_zero (drop (s.c.0 + 1) (table_of s.geo k)) && view_ok s.geo s.c.0 (present_table s k) k && view_ok s.geo (g_n s.geo) (cut_table s k) k
    && pairwise (apart (present_table s k) (cut_table s k)) (entries_of s.geo k) && every (entry_at_most s) (entries_of s.geo k) && index_at_most s (index_in s.geo k))
    ≡ fits_in s k
unfolding table_fits views_fit stamps_fit fits_in
fits-text s k =
    regroup (head_ok s k) (word_ok s.worn s.t.0 (get_or (table_of s.geo k) s.c.0 0)) (every word_max (table_of s.geo k))
    (every is_zero (drop (s.c.0 + 1) (table_of s.geo k))) (view_ok s.geo s.c.0 (present_table s k) k) (view_ok s.geo (g_n s.geo) (cut_table s k) k)
    (pairwise (apart (present_table s k) (cut_table s k)) (entries_of s.geo k)) (every (entry_at_most s) (entries_of s.geo k)) (index_at_most s (index_in s.geo k))

-- sector 0, read in the image
pub head-word : (work : List ℕ) → 512 ≤ length work → word_at (sec work 0) 0 ≡ word_at work 0
unfolding sec part
head-word work l = word-part work 512 0 0 (omega arith) (omega arith)

pub head-rest : (work : List ℕ) → drop 16 (sec work 0) ≡ take (512 - 16) (drop 16 work)
unfolding sec part
head-rest work = drop-take 16 496 work

-- the table as it is: that of the cut view
pub cut-as_is : (s : Opened) (work : List ℕ) → LaidOut s.geo work → table_in s.geo (as_is s.geo) (sec work) ≡ cut_table s (sec work)
unfolding cut_table
cut-as_is s work l = as_is_lem s.geo work l

-- the index is a sector
pub index-sector : (s : Opened) (work : List ℕ) → index_in s.geo (sec work) ≡ sec work (s.geo.t + 1)
unfolding index_in
index-sector s work = refl

-- where the sizes agree, all sectors before the data lie in the image
pub sizes-laid : (s : Opened) (work : List ℕ) → sizes_ok s work ≡ true → LaidOut s.geo work
unfolding sizes_ok
sizes-laid s work e =
    let (a, l) = both _ (eqb (length work) (512 * s.geo.s)) e in
    let b = (both _ (leb s.t.0 max_tx) a).0 in
    let c = (both _ (leb 1 s.t.0) b).0 in
    let d = (both (geo_ok s.geo) (ltb s.c.0 (g_n s.geo)) c).0 in
    ok-laid s.geo work d (eqb-true _ _ l)
