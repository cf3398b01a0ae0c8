-- Get over one view, and the reading calls, answer by answer. Assumes nothing.
use Rattle.std.specs.Prelude.{Option, Some, None, Ok, Err, slice_get}
use mathlib.Core.Path.{◌≡◌, sym, ap, ◌∙◌}
use mathlib.Core.Bool.{true, false}
use mathlib.Core.List.{List}
use Prim.Native.Nat.{ℕ, ◌≤◌, ◌<◌}
use borrow.Author.Tests.{le-leb, lt-leb}
use lib.Dec.{leb}
use lib.ListN.{length}
use Rattle.words.specs.Lists.{first_at, splice}
use Rattle.words.specs.Bytes.{word_at}
use Rattle.sectors.specs.Sectors.{sec}
use Rattle.counts.specs.declared.Geo.{Geo}
use Rattle.counts.specs.declared.View.{View}
use Rattle.counts.specs.Geometry.{g_n, geo_of, count_of, table_of}
use Rattle.counts.specs.Stamps.{table_in, as_is}
use Rattle.entries.specs.Entries.{good_name}
use Rattle.entries.specs.declared.Run.{Run}
use Rattle.directory.specs.Directory.{entries_of, named}
use Rattle.apages.specs.Bits.{clear_bits}
use Rattle.apages.specs.Index.{page_in}
use Rattle.card.specs.declared.Answer.{Answer}
use Rattle.card.specs.declared.Line.{Line}
use Rattle.card.specs.declared.Refusal.{Refusal}
use Rattle.card.specs.Answers.{number_of, reported_of, lined_of}
use Rattle.card.specs.Plan.{Plan, refuse, guard, need, ended, go_ahead, refused, done}
use Rattle.card.specs.Files.{files_of, run_at, content_of, get_plan, get_end, list_plan, list_end, line_end}
use Rattle.card.specs.Sound.{shape_ok, sound}
use Rattle.card.specs.Reading.{files_in, files_shown, page_shown, read_plan, read, read_list, read_line, read_get}
use Rattle.card.proofs.SoundTests.{shape-length, shape-laid, head-word, as-table}
use Rattle.card.proofs.LineLaws.{line-counted}
use Rattle.card.specs.Inner.{IsGot, get_at, get_in}

module _ (g : Geo) (tab img out : List ℕ) (j : ℕ) {r : Run} (e : r ≡ run_at g tab img j) where
  pub got-short : length out < r.bytes → IsGot (refused 10) out (get_at g tab img out j)
  unfolding get_at get_end guard ended
  got-short l = let z : leb (run_at g tab img j).bytes (length out) ≡ false = rw e at (lt-leb r.bytes (length out) l) in (rw z, rw z)

  pub got-done : {x : List ℕ} → r.bytes ≤ length out → x ≡ splice out 0 (content_of img r) → IsGot (done r.bytes) x (get_at g tab img out j)
  unfolding get_at get_end guard ended
  got-done l h = let z : leb (run_at g tab img j).bytes (length out) ≡ true = rw e at (le-leb r.bytes (length out) l) in (rw (e, z), rw z (rw e at h))

module _ (g : Geo) (tab img n out : List ℕ) where
  pub got-name : false ≡ good_name n → IsGot (refused 5) out (get_in g tab img n out)
  unfolding get_in get_plan get_end guard ended
  got-name e = (rw (← e), rw (← e))

  module _ (e : true ≡ good_name n) where
    pub got-none : first_at (named tab tab n) 0 (entries_of g (sec img)) ≡ None → IsGot (refused 6) out (get_in g tab img n out)
    unfolding get_in get_plan get_end guard need ended
    got-none y = (rw (← e, y), rw (← e, y))

    pub got-found : {a : Answer} {x : List ℕ} (j : ℕ) → first_at (named tab tab n) 0 (entries_of g (sec img)) ≡ Some j → IsGot a x (get_at g tab img out j)
        → IsGot a x (get_in g tab img n out)
    unfolding get_in get_at get_plan get_end guard need
    got-found j y k = (rw (← e, y) k.0, rw (← e, y) k.1)

-- ---- the reading calls

plan-go : (img : List ℕ) → shape_ok img ≡ true → sound img ≡ true → (p : Plan) → read_plan img p ≡ p
unfolding read_plan guard
plan-go img z y p = rw (z, y)

-- refused before anything else is tested
pub plan-shape : (img : List ℕ) → false ≡ shape_ok img → (p : Plan) → read_plan img p ≡ refuse 1
unfolding read_plan guard
plan-shape img e p = rw (← e)

pub plan-sound : (img : List ℕ) → true ≡ shape_ok img → false ≡ sound img → (p : Plan) → read_plan img p ≡ refuse 2
unfolding read_plan guard
plan-sound img e f p = rw (← e, ← f)

module _ (img : List ℕ) (r : Refusal) (e : (p : Plan) → read_plan img p ≡ refuse (number_of r)) where
  pub read-refused : reported_of (Err r) ≡ read img
  unfolding read ended
  read-refused = rw (e go_ahead)

  pub line-refused : (i : ℕ) → lined_of (Err r) ≡ read_line img i
  unfolding read_line line_end ended
  line-refused i = rw (e go_ahead)

  pub get-refused : (name out : List ℕ) → IsGot (refused (number_of r)) out (read_get img name out)
  unfolding read_get get_end ended
  get-refused name out =
      let z = e (get_plan (geo_of (sec img)) (table_of (geo_of (sec img)) (sec img)) img name out) in (rw z, rw z)

  pub list-refused : (lines : List Line) → (refused (number_of r) ≡ (read_list img lines).answer) × (lines ≡ (read_list img lines).lines)
  unfolding read_list list_end ended
  list-refused lines = let z = e (list_plan (files_shown img) (length lines)) in (rw z, rw z)

-- done: for the geometry that the card stores and the view that takes its table as it is
module _ (img : List ℕ) (shape : shape_ok img ≡ true) (ok : sound img ≡ true) (g : Geo) (v : View) (e : g ≡ geo_of (sec img)) (f : v ≡ as_is g) where
  tab : table_in g v (sec img) ≡ table_of g (sec img)
  tab = as-table g img (shape-laid img g e shape) f

  files : files_of (table_in g v (sec img)) (entries_of g (sec img)) ≡ files_shown img
  unfolding files_shown files_in
  files = rw (tab, e)

  pub read_done : {C N n m : ℕ} → C ≡ word_at img 0 → N ≡ g_n g → n ≡ length (files_of (table_in g v (sec img)) (entries_of g (sec img))) → m ≡ clear_bits (page_in g (table_in g v (sec img)) (sec img))
      → reported_of (Ok (record { c = record { 0 = C }; n = N; files = n; free = m })) ≡ read img
  unfolding read page_shown ended count_of
  read_done {C} {N} {n} {m} p o q r =
      let a : C ≡ word_at (sec img 0) 0 = p ∙ sym (head-word img (shape-length img shape)) in
      let b : n ≡ length (files_shown img) = q ∙ ap length files in
      let c : m ≡ clear_bits (page_in (geo_of (sec img)) (table_of (geo_of (sec img)) (sec img)) (sec img)) = rw (tab, e) at r in
      rw (plan-go img shape ok go_ahead, a, o, b, c, e)

  pub line-done : (i : ℕ) {o : Option Line} → o ≡ slice_get (files_of (table_in g v (sec img)) (entries_of g (sec img))) i → lined_of (Ok o) ≡ read_line img i
  unfolding read_line
  line-done i s = rw (plan-go img shape ok go_ahead, s, files) (line-counted (files_shown img) i)

  pub get-done : (name out : List ℕ) {a : Answer} {x : List ℕ} → IsGot a x (get_in g (table_in g v (sec img)) img name out) → IsGot a x (read_get img name out)
  unfolding read_get get_in
  get-done name out h =
      let z = plan-go img shape ok (get_plan (geo_of (sec img)) (table_of (geo_of (sec img)) (sec img)) img name out) in
      (rw z (rw (tab, e) at h.0), rw z (rw (tab, e) at h.1))

  pub list-read : (lines : List Line) → let fs = files_of (table_in g v (sec img)) (entries_of g (sec img)) in list_end fs lines (list_plan fs (length lines)) ≡ read_list img lines
  unfolding read_list
  list-read lines = rw (plan-go img shape ok (list_plan (files_shown img) (length lines)), files)
