-- The table's words: where each stands in an image, and how a view takes it. Assumes nothing.
use mathlib.Core.Path.{◌≡◌, refl, sym, ap, ◌∙◌}
use mathlib.Core.Bool.{true}
use mathlib.Core.List.{List, ◌++◌}
use Prim.Native.Nat.{ℕ, zero, suc, ◌+◌, ◌*◌, ◌≤◌, ◌<◌}
use native.Mathlib.Omega.{arith}
use borrow.Author.Tests.{leb-true, ltb-true}
use lib.Dec.{leb, ltb}
use lib.ListN.{length, take, drop, get_or, set, length-drop, length-set, get_or-eq_default}
use lib.Seq.{length-take-le, drop-drop, take-add, get_or-set_same, get_or-set_other, set_out}
use Rattle.words.specs.Lists.{part}
use Rattle.words.specs.Bytes.{word_at, words}
use Rattle.words.proofs.WordLaws.{words-at, words-length, words_append, word-part}
use Rattle.words.proofs.BoolLaws.{both}
use Rattle.sectors.specs.Sectors.{sec}
use Rattle.counts.specs.declared.Geo.{Geo}
use Rattle.counts.specs.declared.View.{View}
use Rattle.counts.specs.Geometry.{g_p, g_dir, g_f, geo_ok, geo_of, table_from, table_of, g_n}
use Rattle.counts.specs.Stamps.{table_in, as_is}
use Rattle.counts.specs.Inner.{LaidOut}

-- the places: index and pages come before the directory, the directory before the data
pub past-pages : (g : Geo) → 0 < g.s → g.t + 4 ≤ g_dir g
unfolding g_dir g_p
past-pages g h = omega arith

pub past_index : (g : Geo) → g.t + 2 ≤ g_dir g
unfolding g_dir
past_index g = omega arith

pub dir-data : (g : Geo) → g_dir g + g.d ≡ g_f g
unfolding g_f
dir-data g = refl

pub dir-is : (g : Geo) → g_dir g ≡ g.t + 2 + 2 * g_p g
unfolding g_dir
dir-is g = refl

-- the pages hold a bit for each sector, and one index sector has room for their groups
pub pages-cover : (g : Geo) → g.s ≤ 4096 * g_p g
unfolding g_p
pages-cover g = omega arith

pub pages-few : (g : Geo) → g.s ≤ 65536 → g_p g ≤ 16
unfolding g_p
pages-few g h = omega arith

-- what a geometry that passes says of an image of S sectors
pub ok-laid : (g : Geo) (img : List ℕ) → geo_ok g ≡ true → length img ≡ 512 * g.s → LaidOut g img
unfolding geo_ok
ok-laid g img h l =
    let (a, f) = both _ (ltb (g_f g) g.s) h in
    let (b, d) = both _ (leb g.d 64) a in
    let (c, d') = both _ (leb 1 g.d) b in
    let (e, t) = both _ (leb g.t 512) c in
    let (s, t') = both (leb g.s 65536) (leb 1 g.t) e in
    let n : g_f g < g.s = ltb-true _ _ f in
    record { s = leb-true _ _ s; t = leb-true _ _ t; d = leb-true _ _ d; past = past-pages g (omega arith); dir = dir-data g; room = omega arith }

-- the geometry, word by word, as the image has it
pub geo-here : (img : List ℕ) {s t d : ℕ} → 512 ≤ length img → s ≡ word_at img 4 → t ≡ word_at img 8 → d ≡ word_at img 12
    → record { s = s; t = t; d = d } ≡ geo_of (sec img)
unfolding geo_of sec part
geo-here img h e₁ e₂ e₃ =
    rw (word-part img 512 0 4 (omega arith) (omega arith), word-part img 512 0 8 (omega arith) (omega arith), word-part img 512 0 12 (omega arith) (omega arith), e₁, e₂, e₃)

-- n sectors in a row are one part
table-flat : (img : List ℕ) (n i : ℕ) → 512 * (i + n) ≤ length img → table_from i n (sec img) ≡ words (take (512 * n) (drop (512 * i) img))
unfolding table_from words sec part
table-flat img zero i h = refl
table-flat img (suc n) i h =
    let s = take 512 (drop (512 * i) img) in
    let l : length s ≡ 4 * 128 = length-take-le 512 (drop (512 * i) img) (simp length-drop (omega arith)) in
    let e : 512 * suc n ≡ 512 + 512 * n = omega arith in
    let f : 512 * suc i ≡ 512 * i + 512 = omega arith in
    let q : drop 512 (drop (512 * i) img) ≡ drop (512 * suc i) img = drop-drop 512 (512 * i) img ∙ ap (λ (k : ℕ). drop k img) (sym f) in
    let w : take (512 * suc n) (drop (512 * i) img) ≡ s ++ take (512 * n) (drop 512 (drop (512 * i) img)) = rw e (take-add 512 (512 * n) (drop (512 * i) img)) in
    ap (λ (r : List ℕ). words s ++ r) (table-flat img n (suc i) (omega arith))
    ∙ sym (ap words w ∙ words_append s _ 128 l ∙ ap (λ (r : List ℕ). words s ++ words (take (512 * n) r)) q)

module _ (g : Geo) (img : List ℕ) (laid : LaidOut g img) where
  table-room : 512 * (1 + g.t) ≤ length img
  table-room = omega (arith, laid.room)

  flat-length : length (take (512 * g.t) (drop 512 img)) ≡ 4 * (128 * g.t)
  flat-length = length-take-le (512 * g.t) (drop 512 img) (simp length-drop (omega (arith, table-room))) ∙ omega arith

  pub table-length : length (table_of g (sec img)) ≡ 128 * g.t
  unfolding table_of
  table-length = ap length (table-flat img g.t 1 table-room) ∙ words-length _ (128 * g.t) flat-length

  -- table word cc
  pub table_at : (cc : ℕ) → cc < 128 * g.t → get_or (table_of g (sec img)) cc 0 ≡ word_at img (512 + 4 * cc)
  unfolding table_of
  table_at cc h =
      ap (λ (l : List ℕ). get_or l cc 0) (table-flat img g.t 1 table-room)
      ∙ words-at _ cc (omega (arith, flat-length)) ∙ word-part img (512 * g.t) 512 (4 * cc) (omega arith) (omega (arith, table-room))

  pub table-past : (cc : ℕ) → 128 * g.t ≤ cc → get_or (table_of g (sec img)) cc 0 ≡ 0
  table-past cc h = get_or-eq_default (table_of g (sec img)) 0 (omega (arith, table-length))

  pub table-lt : (i : ℕ) → i < 128 * g.t → i < length (table_of g (sec img))
  table-lt i h = omega (arith, table-length)

  pub table-le : (i : ℕ) → 128 * g.t ≤ i → length (table_of g (sec img)) ≤ i
  table-le i h = omega (arith, table-length)

  -- the view that takes the table as it is
  pub as_is_lem : table_in g (as_is g) (sec img) ≡ table_of g (sec img)
  unfolding table_in as_is g_n
  as_is_lem = set_out (table_of g (sec img)) (128 * g.t) 0 (table-le (128 * g.t) (omega arith))

  -- word cc as a view takes it: past the table, at the view's own word, and at another
  module _ (v : View) (cc : ℕ) where
    pub view-past : 128 * g.t ≤ cc → get_or (table_in g v (sec img)) cc 0 ≡ 0
    unfolding table_in
    view-past h = get_or-eq_default (set (table_of g (sec img)) v.c.0 v.t.0) 0 (simp length-set (omega (arith, table-length)))

    pub view-own : cc < 128 * g.t → cc ≡ v.c.0 → get_or (table_in g v (sec img)) cc 0 ≡ v.t.0
    unfolding table_in
    view-own h e =
        let l : v.c.0 < length (table_of g (sec img)) = omega (arith, table-length) in
        rw e (get_or-set_same (table_of g (sec img)) v.c.0 v.t.0 0 l)

    pub view-other : (cc ≡ v.c.0 → ⊥) → get_or (table_in g v (sec img)) cc 0 ≡ get_or (table_of g (sec img)) cc 0
    unfolding table_in
    view-other n = get_or-set_other (table_of g (sec img)) v.c.0 cc v.t.0 0 n
