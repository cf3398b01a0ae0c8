-- A card's shape and soundness, as the tests are made. Assumes nothing.
use mathlib.Core.Path.{◌≡◌, refl, sym, ap, ◌∙◌}
use mathlib.Core.Bool.{Bool, true, false, not, ◌&&◌}
use mathlib.Core.List.{List}
use Prim.Native.Nat.{ℕ, ◌*◌, ◌≤◌, ◌<◌}
use native.Mathlib.Omega.{arith}
use borrow.Author.Tests.{ne_eqb, eqb-true, ltb-true, not-true, not-false}
use lib.Dec.{leb, ltb, eqb}
use lib.ListN.{length, take, drop}
use Rattle.words.specs.Lists.{every, pairwise, is_zero, part}
use Rattle.words.specs.Bytes.{word_at}
use Rattle.words.proofs.WordLaws.{word-part}
use Rattle.words.proofs.BoolLaws.{both}
use Rattle.words.proofs.EveryLaws.{and-false}
use Rattle.words.proofs.PartLaws.{drop-take}
use Rattle.sectors.specs.Sectors.{sec}
use Rattle.counts.specs.declared.Geo.{Geo}
use Rattle.counts.specs.declared.View.{View}
use Rattle.counts.specs.Geometry.{g_n, g_f, geo_ok, geo_of, count_of, table_of}
use Rattle.counts.specs.Stamps.{table_in, as_is, table_ok}
use Rattle.counts.specs.Inner.{InLimits, LaidOut}
use Rattle.counts.proofs.TableLaws.{ok-laid, as_is_lem}
use Rattle.directory.specs.Directory.{entries_of, apart}
use Rattle.card.specs.Inner.{RunsOk}
use Rattle.apages.specs.Inner.{PairIn}
use Rattle.card.proofs.ViewLaws.{passed-pair, passed-runs}
use Rattle.card.specs.Sound.{view_ok, counts_ok, sound_in, shape_ok, sound}

-- ---- shape

geo-one : (g : Geo) → geo_ok g ≡ true → 1 ≤ g.s
unfolding geo_ok
geo-one g h =
    let l : g_f g < g.s = ltb-true _ _ (both (leb g.s 65536 && leb 1 g.t && leb g.t 512 && leb 1 g.d && leb g.d 64) (ltb (g_f g) g.s) h).1 in
    omega arith

module _ (img : List ℕ) where
  pub shape-short : length img < 512 → false ≡ shape_ok img
  unfolding shape_ok
  shape-short h = go (geo_ok (geo_of (sec img))) refl
    where
      go : (b : Bool) → geo_ok (geo_of (sec img)) ≡ b → false ≡ (b && eqb (length img) (512 * (geo_of (sec img)).s))
      go false e = refl
      go true e = sym (ne_eqb (length img) (512 * (geo_of (sec img)).s) (λ q. omega (arith, geo-one (geo_of (sec img)) e)))

  module _ (g : Geo) {r : Bool} (e : g ≡ geo_of (sec img)) (f : r ≡ geo_ok g) where
    pub shape-geo : not r ≡ true → false ≡ shape_ok img
    unfolding shape_ok
    shape-geo n = let z : geo_ok (geo_of (sec img)) ≡ false = ap geo_ok (sym e) ∙ sym f ∙ not-true r n in rw z

    pub shape_size : not r ≡ false → eqb (length img) (512 * g.s) ≡ shape_ok img
    unfolding shape_ok
    shape_size n = let z : geo_ok (geo_of (sec img)) ≡ true = ap geo_ok (sym e) ∙ sym f ∙ not-false r n in rw (z, ← e)

  -- what a card of the right shape says of its geometry
  shape-geometry : shape_ok img ≡ true → (geo_ok (geo_of (sec img)) ≡ true) × (length img ≡ 512 * (geo_of (sec img)).s)
  unfolding shape_ok
  shape-geometry h = let w = both (geo_ok (geo_of (sec img))) (eqb (length img) (512 * (geo_of (sec img)).s)) h in (w.0, eqb-true _ _ w.1)

  pub shape-length : shape_ok img ≡ true → 512 ≤ length img
  shape-length h =
      let w = shape-geometry h in
      let o = geo-one (geo_of (sec img)) w.0 in omega (arith, w.1)

  module _ (g : Geo) (e : g ≡ geo_of (sec img)) (h : shape_ok img ≡ true) where
    pub shape-laid : LaidOut g img
    shape-laid = let w = shape-geometry h in rw e (ok-laid (geo_of (sec img)) img w.0 w.1)

    pub shape-limits : InLimits g
    shape-limits = record { s = shape-laid.s; t = shape-laid.t; d = shape-laid.d }

    pub shape-room : length img ≡ 512 * g.s
    shape-room = rw e (shape-geometry h).1

-- ---- soundness

pub head-word : (img : List ℕ) → 512 ≤ length img → word_at (sec img 0) 0 ≡ word_at img 0
unfolding sec part
head-word img l = word-part img 512 0 0 (omega arith) (omega arith)

head-rest : (img : List ℕ) → drop 16 (sec img 0) ≡ take 496 (drop 16 img)
unfolding sec part
head-rest img = drop-take 16 496 img

and-true : (a : Bool) → (a && true) ≡ a
and-true true = refl
and-true false = refl

-- the view that takes the table as it is
module _ (g : Geo) (img : List ℕ) (laid : LaidOut g img) {v : View} (e : v ≡ as_is g) where
  pub as-table : table_in g v (sec img) ≡ table_of g (sec img)
  as-table = rw e (as_is_lem g img laid)

-- the counts and the table, as code tests them
module _ (g : Geo) (img : List ℕ) {a : Bool} (ea : a ≡ every is_zero (take 496 (drop 16 img))) where
  pub zeros-here : a ≡ every is_zero (drop 16 (sec img 0))
  zeros-here = ea ∙ ap (every is_zero) (sym (head-rest img))

  pub counts-no : not a ≡ true → false ≡ counts_ok g (sec img)
  counts-no n =
      let z : every is_zero (drop 16 (sec img 0)) ≡ false = sym zeros-here ∙ not-true a n in
      rw (z, and-false)

  pub counts-here : {C N : ℕ} {b : Bool} → not a ≡ false → C ≡ count_of (sec img) → N ≡ g_n g → b ≡ table_ok g C (table_of g (sec img)) → (leb C N && b) ≡ counts_ok g (sec img)
  counts-here n e_c e_n eb =
      let z : every is_zero (drop 16 (sec img 0)) ≡ true = sym zeros-here ∙ not-false a n in
      rw (z, and-true, eb, e_n, e_c)

pub head-count : (g : Geo) {img : List ℕ} {C : ℕ} → LaidOut g img → C ≡ word_at img 0 → C ≡ count_of (sec img)
unfolding count_of
head-count g {img} laid e = e ∙ sym (head-word img (omega (arith, laid.room)))

-- counts, view and names: the first that fails decides
module _ (g : Geo) (img : List ℕ) (laid : LaidOut g img) {a : Bool} (ea : a ≡ counts_ok g (sec img)) where
  pub sound-counts : not a ≡ true → false ≡ sound_in g (sec img)
  unfolding sound_in
  sound-counts n = let z : counts_ok g (sec img) ≡ false = sym ea ∙ not-true a n in rw z

  module _ {v : View} {C : ℕ} {b : Bool} (n : not a ≡ false) (e : v ≡ as_is g) (e_c : C ≡ count_of (sec img)) (eb : b ≡ view_ok g C (table_in g v (sec img)) (sec img)) where
    view-here : b ≡ view_ok g (count_of (sec img)) (table_of g (sec img)) (sec img)
    view-here = rw (← e_c, ← as-table g img laid e) eb

    pub sound-unseen : not b ≡ true → false ≡ sound_in g (sec img)
    unfolding sound_in
    sound-unseen m =
        let z : view_ok g (count_of (sec img)) (table_of g (sec img)) (sec img) ≡ false = sym view-here ∙ not-true b m in
        rw (z, and-false)

    pub sound-names : {d : Bool} → not b ≡ false → d ≡ pairwise (apart (table_in g v (sec img)) (table_in g v (sec img))) (entries_of g (sec img)) → d ≡ sound_in g (sec img)
    unfolding sound_in
    sound-names m ed =
        let z : counts_ok g (sec img) ≡ true = sym ea ∙ not-false a n in
        let w : view_ok g (count_of (sec img)) (table_of g (sec img)) (sec img) ≡ true = sym view-here ∙ not-false b m in
        rw (z, w, ← as-table g img laid e) ed

pub sound-of : (img : List ℕ) (g : Geo) {r : Bool} → g ≡ geo_of (sec img) → r ≡ sound_in g (sec img) → r ≡ sound img
unfolding sound
sound-of img g e f = f ∙ ap (λ (x : Geo). sound_in x (sec img)) e

-- a sound card's view passes
sound-view : (img : List ℕ) (g : Geo) {v : View} → g ≡ geo_of (sec img) → v ≡ as_is g → LaidOut g img → sound img ≡ true → view_ok g (count_of (sec img)) (table_in g v (sec img)) (sec img) ≡ true
unfolding sound sound_in
sound-view img g {v} e f laid h =
    let q : sound_in g (sec img) ≡ true = rw e h in
    let b : Bool = leb (count_of (sec img)) (g_n g) && every is_zero (drop 16 (sec img 0)) && table_ok g (count_of (sec img)) (table_of g (sec img)) in
    let w : Bool = view_ok g (count_of (sec img)) (table_of g (sec img)) (sec img) in
    let p : Bool = pairwise (apart (table_of g (sec img)) (table_of g (sec img))) (entries_of g (sec img)) in
    rw (as-table g img laid f) (both b w (both (b && w) p q).0).1

-- what a sound card says of the view that takes its table as it is: A and B, and the runs
module _ (img : List ℕ) (g : Geo) {v : View} (e : g ≡ geo_of (sec img)) (f : v ≡ as_is g) (shape : shape_ok img ≡ true) (ok : sound img ≡ true) where
  pub sound-pair : PairIn g img
  sound-pair = passed-pair g (count_of (sec img)) (table_in g v (sec img)) img (sound-view img g e f (shape-laid img g e shape) ok)

  pub sound-runs : RunsOk g (table_in g v (sec img)) (entries_of g (sec img))
  sound-runs = passed-runs g (count_of (sec img)) (table_in g v (sec img)) img (sound-view img g e f (shape-laid img g e shape) ok)
