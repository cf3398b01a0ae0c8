-- A session that fits, taken apart: each test by its name, and put together; the present view of a session that is not worn. Assumes nothing.
use mathlib.Core.Path.{◌≡◌, refl, sym, ap}
use mathlib.Core.Logic.{inr}
use mathlib.Core.Bool.{Bool, true, false, cond, not, ◌&&◌, ◌||◌}
use mathlib.Core.List.{List}
use Prim.Native.Nat.{ℕ, ◌+◌, ◌-◌, ◌*◌, ◌≤◌, ◌<◌}
use native.Mathlib.Omega.{arith}
use native.Mathlib.Decide.{ℕ_discrete}
use borrow.Author.Tests.{eqb-true, ltb-true, leb-true, eq-eqb, ne_eqb, lt-ltb, le-leb}
use lib.Dec.{leb, eqb}
use lib.ListN.{length, drop, get_or, set}
use lib.Seq.{set_out, set-get_or}
use Rattle.words.specs.Lists.{every, pairwise, is_zero}
use Rattle.words.proofs.BoolLaws.{both, join, or-intro, falsum}
use Rattle.sectors.specs.Sectors.{Cells, sec}
use Rattle.counts.specs.declared.Geo.{Geo}
use Rattle.counts.specs.declared.Stamp.{Stamp}
use Rattle.counts.specs.Geometry.{g_n, g_p, geo_ok, geo_of, count_of, table_of}
use Rattle.counts.proofs.GeoLaws.{geo-eq}
use Rattle.counts.proofs.TableLaws.{ok-laid, table-length}
use Rattle.counts.specs.Stamps.{max_tx, word_max, words_ok, stamp_of, table_in, as_is}
use Rattle.directory.specs.Directory.{entries_of, apart}
use Rattle.apages.specs.Index.{index_in, group_of}
use Rattle.apages.proofs.PassLaws.{groups-inv, groups-intro}
use Rattle.card.specs.Sound.{view_ok}
use Rattle.session.specs.declared.Opened.{Opened}
use Rattle.session.specs.Views.{present_view, present_table, cut_view, cut_table}
use Rattle.session.specs.Fits.{sizes_ok, head_ok, word_ok, stamp_at_most, entry_at_most, group_at_most, index_at_most, table_fits, views_fit, stamps_fit, fits_in, fits}

pub record Fit (s : Opened) (work : List ℕ) : Type 0 where
  pub shape : geo_ok s.geo ≡ true
  pub count : s.c.0 < g_n s.geo
  pub low : 1 ≤ s.t.0
  pub tx : s.t.0 ≤ max_tx
  pub sized : length work ≡ 512 * s.geo.s
  pub head : head_ok s (sec work) ≡ true
  pub word : word_ok s.worn s.t.0 (get_or (table_of s.geo (sec work)) s.c.0 0) ≡ true
  pub max : every word_max (table_of s.geo (sec work)) ≡ true
  pub past : every is_zero (drop (s.c.0 + 1) (table_of s.geo (sec work))) ≡ true
  pub pres_view : view_ok s.geo s.c.0 (present_table s (sec work)) (sec work) ≡ true
  pub cut_view : view_ok s.geo (g_n s.geo) (table_of s.geo (sec work)) (sec work) ≡ true
  pub alone : pairwise (apart (present_table s (sec work)) (table_of s.geo (sec work))) (entries_of s.geo (sec work)) ≡ true
  pub stamps : every (entry_at_most s) (entries_of s.geo (sec work)) ≡ true
  pub index : index_at_most s (index_in s.geo (sec work)) ≡ true

pub fit-inv : (s : Opened) (work : List ℕ) → fits s work ≡ true → Fit s work
unfolding fits sizes_ok fits_in table_fits views_fit stamps_fit cut_table
fit-inv s work h =
    let k = sec work in
    let tc = table_of s.geo k in
    let (x, y) = both _ (table_fits s k && views_fit s k && stamps_fit s k) h in
    let (x₁, a₅) = both _ (eqb (length work) (512 * s.geo.s)) x in
    let (x₂, a₄) = both _ (leb s.t.0 max_tx) x₁ in
    let (x₃, a₃) = both _ (leb 1 s.t.0) x₂ in
    let (a₁, a₂) = both (geo_ok s.geo) _ x₃ in
    let (p, stamps) = both _ (stamps_fit s k) y in
    let (table, views) = both (table_fits s k) (views_fit s k) p in
    let (q, w) = both _ (words_ok s.c.0 tc) table in
    let (b₁, b₂) = both (head_ok s k) (word_ok s.worn s.t.0 (get_or tc s.c.0 0)) q in
    let (b₃, b₄) = both (every word_max tc) (every is_zero (drop (s.c.0 + 1) tc)) w in
    let (v, b₇) = both _ (pairwise (apart (present_table s k) tc) (entries_of s.geo k)) views in
    let (b₅, b₆) = both (view_ok s.geo s.c.0 (present_table s k) k) (view_ok s.geo (g_n s.geo) tc k) v in
    let (b₈, b₉) = both (every (entry_at_most s) (entries_of s.geo k)) (index_at_most s (index_in s.geo k)) stamps in
    record {
      shape = a₁;
      count = ltb-true _ _ a₂;
      low = leb-true _ _ a₃;
      tx = leb-true _ _ a₄;
      sized = eqb-true _ _ a₅;
      head = b₁;
      word = b₂;
      max = b₃;
      past = b₄;
      pres_view = b₅;
      cut_view = b₆;
      alone = b₇;
      stamps = b₈;
      index = b₉;
    }

pub fit-intro : (s : Opened) (work : List ℕ) → Fit s work → fits s work ≡ true
unfolding fits sizes_ok fits_in table_fits views_fit stamps_fit cut_table
fit-intro s work F =
    join _ _
    (join _ _ (join _ _ (join _ _ (join _ _ F.shape (lt-ltb _ _ F.count)) (le-leb _ _ F.low)) (le-leb _ _ F.tx)) (eq-eqb _ _ F.sized))
    (join _ _
    (join _ _ (join _ _ (join _ _ F.head F.word) (join _ _ F.max F.past)) (join _ _ (join _ _ F.pres_view F.cut_view) F.alone))
    (join _ _ F.stamps F.index))

-- ---- the head of sector 0

pub record Head (s : Opened) (k : Cells) : Type 0 where
  pub count : count_of k ≡ s.c.0 + 1
  pub geo : geo_of k ≡ s.geo
  pub tail : every is_zero (drop 16 (k 0)) ≡ true

pub head-inv : (s : Opened) (k : Cells) → head_ok s k ≡ true → Head s k
unfolding head_ok
head-inv s k h =
    let (x₁, e) = both _ (every is_zero (drop 16 (k 0))) h in
    let (x₂, d) = both _ (eqb (geo_of k).d s.geo.d) x₁ in
    let (x₃, c) = both _ (eqb (geo_of k).t s.geo.t) x₂ in
    let (a, b) = both (eqb (count_of k) (s.c.0 + 1)) _ x₃ in
    record { count = eqb-true _ _ a; geo = geo-eq _ _ (eqb-true _ _ b) (eqb-true _ _ c) (eqb-true _ _ d); tail = e }

pub head-intro : (s : Opened) (k : Cells) → Head s k → head_ok s k ≡ true
unfolding head_ok
head-intro s k H =
    join _ _
    (join _ _ (join _ _ (join _ _ (eq-eqb _ _ H.count) (eq-eqb _ _ (ap (λ (g : Geo). g.s) H.geo))) (eq-eqb _ _ (ap (λ (g : Geo). g.t) H.geo)))
    (eq-eqb _ _ (ap (λ (g : Geo). g.d) H.geo)))
    H.tail

-- ---- stamps at c

pub at_most : (s : Opened) (x : Stamp) → stamp_at_most s x ≡ true → x.cc.0 ≡ s.c.0 → x.txc.0 ≤ s.t.0
unfolding stamp_at_most
at_most s x h e = leb-true _ _ (rw (eq-eqb x.cc.0 s.c.0 e) at h)

pub at-most-intro : (s : Opened) (x : Stamp) → (x.cc.0 ≡ s.c.0 → x.txc.0 ≤ s.t.0) → stamp_at_most s x ≡ true
unfolding stamp_at_most
at-most-intro s x h = go (ℕ_discrete x.cc.0 s.c.0)
  where
    go : Dec (x.cc.0 ≡ s.c.0) → (not (eqb x.cc.0 s.c.0) || leb x.txc.0 s.t.0) ≡ true
    go (yes e) = or-intro (not (eqb x.cc.0 s.c.0)) _ (inr (le-leb _ _ (h e)))
    go (no o) = rw (ne_eqb _ _ o)

-- group p of the index
pub index-most : (s : Opened) (ix : List ℕ) → index_at_most s ix ≡ true → (p : ℕ) → p < g_p s.geo → stamp_at_most s (stamp_of (group_of ix p)) ≡ true
unfolding index_at_most group_at_most
index-most s ix h p l = groups-inv (group_at_most s) ix (g_p s.geo) h p l

pub index-most-intro : (s : Opened) (ix : List ℕ) → ((p : ℕ) → p < g_p s.geo → stamp_at_most s (stamp_of (group_of ix p)) ≡ true) → index_at_most s ix ≡ true
unfolding index_at_most group_at_most
index-most-intro s ix h = groups-intro (group_at_most s) ix (g_p s.geo) h

-- ---- worn or not

pub present-live : (s : Opened) (k : Cells) → s.worn ≡ false → present_table s k ≡ set (table_of s.geo k) s.c.0 s.t.0
unfolding present_table present_view table_in
present-live s k e = rw e

pub present-worn : (s : Opened) (k : Cells) → s.worn ≡ true → length (table_of s.geo k) ≡ g_n s.geo → present_table s k ≡ table_of s.geo k
unfolding present_table present_view table_in as_is
present-worn s k e l = rw e (set_out _ _ _ (omega arith))

pub word_live : (s : Opened) (x : ℕ) → s.worn ≡ false → word_ok s.worn s.t.0 x ≡ true → x + 1 ≡ s.t.0
word_live s x e h = go s.worn e h
  where
    go : (b : Bool) → b ≡ false → word_ok b s.t.0 x ≡ true → x + 1 ≡ s.t.0
    go true e h = falsum (sym e)
    go false e h = unfold word_ok in eqb-true _ _ h

-- ---- the cut view

-- the table as it is, where word c of it is t − 1 (worn: whatever it is)
pub cut-literal : (s : Opened) (k : Cells) → length (table_of s.geo k) ≡ g_n s.geo → word_ok s.worn s.t.0 (get_or (table_of s.geo k) s.c.0 0) ≡ true
    → table_in s.geo (cut_view s) k ≡ cut_table s k
unfolding cut_table cut_view table_in as_is
cut-literal s k l h = go s.worn refl
  where
    T : List ℕ
    T = table_of s.geo k

    go : (b : Bool) → s.worn ≡ b → table_in s.geo (cond b (as_is s.geo) (record { c = s.c; t = record { 0 = s.t.0 - 1 } })) k ≡ T
    go true e = set_out _ _ _ (omega arith)
    go false e =
        let w = word_live s (get_or T s.c.0 0) e h in
        let z : s.t.0 - 1 ≡ get_or T s.c.0 0 = omega (arith, w) in
        rw z (set-get_or T s.c.0 0)

-- the table of a fitting session has N words
pub fit-table : (g : Geo) (img : List ℕ) → geo_ok g ≡ true → length img ≡ 512 * g.s → length (table_of g (sec img)) ≡ g_n g
unfolding g_n
fit-table g img ok l = table-length g img (ok-laid g img ok l)

-- in a session that fits the cut view takes the table as it is
pub cut-table : (s : Opened) (work : List ℕ) → fits s work ≡ true → table_in s.geo (cut_view s) (sec work) ≡ cut_table s (sec work)
cut-table s work h = let F = fit-inv s work h in cut-literal s (sec work) (fit-table s.geo work F.shape F.sized) F.word
