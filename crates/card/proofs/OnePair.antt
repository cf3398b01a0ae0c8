-- "P = 1 must give today's bytes": at S up to 4,096 each definition that knows pairs is the one that document 01 had. Assumes nothing.
use Rattle.std.specs.Prelude.{Option, Some, None}
use mathlib.Core.Path.{◌≡◌, refl, ap, ◌∙◌}
use mathlib.Core.Bool.{Bool, true, false, cond, ◌&&◌, ◌||◌}
use mathlib.Core.List.{List, [], ◌∷◌, ◌++◌, append-nil}
use Prim.Native.Nat.{ℕ, zero, suc, ◌+◌, ◌-◌, ◌*◌, ◌%◌, ◌≤◌, ◌<◌, min}
use native.Mathlib.Omega.{arith}
use borrow.Author.Tests.{le-leb, leb-true}
use lib.Dec.{leb, ltb, eqb}
use lib.ListN.{length, drop, replicate, length-drop}
use Rattle.words.specs.Lists.{every, is_zero, part, set_part, pad}
use Rattle.words.specs.Bytes.{word_at, word_bytes}
use Rattle.words.proofs.WordLaws.{word-part}
use Rattle.words.proofs.SpliceLaws.{splice-parts}
use Rattle.words.proofs.EveryMore.{zeros-are}
use Rattle.sectors.specs.Sectors.{Cells, set_sec}
use Rattle.counts.specs.declared.Geo.{Geo}
use Rattle.counts.specs.Geometry.{g_p, g_dir, g_f, in_page, geo_ok}
use Rattle.counts.specs.Stamps.{stamp_of, stamp_ok, dead_below}
use Rattle.entries.specs.declared.Run.{Run}
use Rattle.entries.specs.Entries.{sectors_for, run_ok}
use Rattle.entries.proofs.PassLaws.{run-text}
use Rattle.apages.specs.declared.Index.{Index}
use Rattle.apages.specs.Bits.{set_run}
use Rattle.apages.specs.Runs.{all_clear, find_run, data_from, data_to, fresh_page}
use Rattle.apages.specs.Index.{group_bytes, group_of, index_in, pair_ok, group_ok, every_group, index_ok, shown_page, page_at, map_from, page_in}
use Rattle.apages.proofs.IndexLaws.{group-length}
use Rattle.card.specs.Make.{block_bytes, fresh_group, fresh_groups, fresh_index, fresh_pages, fresh_card}

-- ---- the geometry

-- "F = T + 4 + D"; "S at most 4,096"
unfoldable pub today_f : Geo → ℕ
today_f g = g.t + 4 + g.d

unfoldable pub today_geo_ok : Geo → Bool
today_geo_ok g = leb g.s 4096 && leb 1 g.t && leb g.t 512 && leb 1 g.d && leb g.d 64 && ltb (today_f g) g.s

pub one-pair : (g : Geo) → 0 < g.s → g.s ≤ 4096 → g_p g ≡ 1
unfolding g_p
one-pair g lo hi = omega arith

module _ (g : Geo) (one : g_p g ≡ 1) where
  pub f-today : g_f g ≡ today_f g
  unfolding g_f g_dir today_f
  f-today = omega (arith, one)

  pub geo-today : g.s ≤ 4096 → geo_ok g ≡ today_geo_ok g
  unfolding geo_ok today_geo_ok
  geo-today h = rw (f-today, le-leb g.s 65536 (omega arith), le-leb g.s 4096 h)

  -- ---- the index and the map

  pub pair-today : (a b : ℕ) → pair_ok g 0 a b ≡ ((eqb a (g.t + 2) && eqb b (g.t + 3)) || (eqb a (g.t + 3) && eqb b (g.t + 2)))
  unfolding pair_ok
  pair-today a b =
      let e : g.t + 2 + 2 * 0 ≡ g.t + 2 = omega arith in
      let f : g.t + 3 + 2 * 0 ≡ g.t + 3 = omega arith in rw (e, f)

  module _ (ix : List ℕ) (wide : length ix ≡ 512) where
    pub group-word : (i : ℕ) → i + 4 ≤ 16 → word_at (group_of ix 0) i ≡ word_at ix i
    unfolding group_of part
    group-word i h =
        let f : 0 + i ≡ i = omega arith in rw f at (word-part ix 16 0 i h (omega arith))

    pub stamp-today : stamp_of (group_of ix 0) ≡ stamp_of ix
    unfolding stamp_of
    stamp-today = rw (group-word 0 (omega arith), group-word 4 (omega arith))

    pub shown-today : (tab : List ℕ) → shown_page tab (group_of ix 0) ≡ shown_page tab ix
    unfolding shown_page
    shown-today tab = rw (stamp-today, group-word 8 (omega arith), group-word 12 (omega arith))

    -- "words cc, txc, A, B; the rest 0"
    pub index-today : (bound : ℕ) (tab : List ℕ) → index_ok g bound tab ix
        ≡ (stamp_ok g (stamp_of ix) && dead_below bound tab (stamp_of ix) && every is_zero (drop 16 ix)
        && ((eqb (word_at ix 8) (g.t + 2) && eqb (word_at ix 12) (g.t + 3)) || (eqb (word_at ix 8) (g.t + 3) && eqb (word_at ix 12) (g.t + 2))))
    unfolding index_ok
    index-today bound tab = rw (one, stamp-test) (swap (stamp_ok g (stamp_of ix)) (dead_below bound tab (stamp_of ix)) _ (every is_zero (drop 16 ix)))
      where
        swap : (a b c z : Bool) → ((a && b && c) && z) ≡ (a && b && z && c)
        swap true true true true = refl
        swap true true true false = refl
        swap true true false true = refl
        swap true true false false = refl
        swap true false c z = refl
        swap false b c z = refl

        single : (b : Bool) → (b && true) ≡ b
        single true = refl
        single false = refl

        test : group_ok g bound tab 0 (group_of ix 0)
            ≡ (stamp_ok g (stamp_of ix) && dead_below bound tab (stamp_of ix) && ((eqb (word_at ix 8) (g.t + 2) && eqb (word_at ix 12) (g.t + 3)) || (eqb (word_at ix 8) (g.t + 3) && eqb (word_at ix 12) (g.t + 2))))
        test = unfold group_ok in rw (stamp-today, group-word 8 (omega arith), group-word 12 (omega arith), pair-today (word_at ix 8) (word_at ix 12))

        stamp-test : every_group (group_ok g bound tab) ix 0 1
            ≡ (stamp_ok g (stamp_of ix) && dead_below bound tab (stamp_of ix) && ((eqb (word_at ix 8) (g.t + 2) && eqb (word_at ix 12) (g.t + 3)) || (eqb (word_at ix 8) (g.t + 3) && eqb (word_at ix 12) (g.t + 2))))
        stamp-test = unfold every_group in (single (group_ok g bound tab 0 (group_of ix 0)) ∙ test)

    -- what is written: the four words, and zeros behind them
    pub bytes-today : (y : Index) → every is_zero (drop 16 ix) ≡ true → set_part 16 ix 0 (group_bytes y) ≡ group_bytes y ++ replicate 496 0
    unfolding set_part
    bytes-today y z =
        let f : 0 + length (group_bytes y) ≡ 16 = omega (arith, group-length y) in
        let l : length (drop 16 ix) ≡ 496 = simp length-drop (omega arith) in
        let r : drop 16 ix ≡ replicate 496 0 = zeros-are (drop 16 ix) z ∙ ap (λ (n : ℕ). replicate n 0) l in
        splice-parts ix 0 (group_bytes y) (omega (arith, group-length y)) ∙ ap (λ (n : ℕ). group_bytes y ++ drop n ix) f ∙ ap (λ (l : List ℕ). group_bytes y ++ l) r

  -- "The index shows apage A when alive, B when dead."
  pub map-today : (tab : List ℕ) (k : Cells) → length (index_in g k) ≡ 512 → page_in g tab k ≡ k (shown_page tab (index_in g k))
  unfolding page_in
  map-today tab k wide = rw one (unfold map_from in (append-nil (page_at g tab k 0) ∙ (unfold page_at in ap k (shown-today (index_in g k) wide tab))))

  -- ---- a fresh card

  module _ (small : g.s ≤ 4096) where
    pub page-today : fresh_page g 0 ≡ set_run (replicate 512 255) (g_f g) (g.s - g_f g) 0
    unfolding fresh_page data_from data_to
    page-today =
        let a : g_f g - 4096 * 0 ≡ g_f g = omega arith in
        let b : min (g.s - 4096 * 0) 4096 ≡ g.s = omega arith in rw (a, b)

    pub fresh-today : fresh_card g
        ≡ set_sec (set_sec (set_sec (set_sec (replicate (512 * g.s) 0) 0 (block_bytes 0 g)) (g.t + 1) (word_bytes 0 ++ word_bytes 0 ++ word_bytes (g.t + 2) ++ word_bytes (g.t + 3) ++ replicate 496 0)) (g.t + 2) (set_run (replicate 512 255) (g_f g) (g.s - g_f g) 0))
        (g.t + 3)
        (set_run (replicate 512 255) (g_f g) (g.s - g_f g) 0)
    unfolding fresh_card
    fresh-today = rw (one, index_is) (unfold fresh_pages in rw (two, three, page-today))
      where
        two : g.t + 2 + 2 * 0 ≡ g.t + 2
        two = omega arith

        three : g.t + 3 + 2 * 0 ≡ g.t + 3
        three = omega arith

        group-is : group_bytes (fresh_group g 0) ++ replicate 496 0 ≡ word_bytes 0 ++ word_bytes 0 ++ word_bytes (g.t + 2) ++ word_bytes (g.t + 3) ++ replicate 496 0
        group-is = unfold group_bytes fresh_group in (rw (two, three) (unfold word_bytes in refl))

        index_is : fresh_index g ≡ word_bytes 0 ++ word_bytes 0 ++ word_bytes (g.t + 2) ++ word_bytes (g.t + 3) ++ replicate 496 0
        index_is =
            unfold fresh_index pad fresh_groups in
            rw (one, append-nil (group_bytes (fresh_group g 0)), group-length (fresh_group g 0)) group-is

-- ---- runs

-- a run inside a card of one pair lies in one page
pub run-today : (g : Geo) (r : Run) → g.s ≤ 4096
    → run_ok g r ≡ (eqb r.sectors (sectors_for r.bytes) && cond (is_zero r.sectors) (is_zero r.start.0) (leb (g_f g) r.start.0 && leb (r.start.0 + r.sectors) g.s))
run-today g r small = run-text g r ∙ go (leb (r.start.0 + r.sectors) g.s) refl
  where
    go : (b : Bool) → leb (r.start.0 + r.sectors) g.s ≡ b
        → (eqb r.sectors (sectors_for r.bytes) && cond (is_zero r.sectors) (is_zero r.start.0) (leb (g_f g) r.start.0 && leb (r.start.0 + r.sectors) g.s && in_page r.start.0 r.sectors))
        ≡ (eqb r.sectors (sectors_for r.bytes) && cond (is_zero r.sectors) (is_zero r.start.0) (leb (g_f g) r.start.0 && leb (r.start.0 + r.sectors) g.s))
    go true e =
        let l : r.start.0 + r.sectors ≤ g.s = leb-true _ _ e in
        let p : in_page r.start.0 r.sectors ≡ true = le-leb (r.start.0 % 4096 + r.sectors) 4096 (omega arith) in rw (e, p) (rw (last (leb (g_f g) r.start.0)))
      where
        last : (b : Bool) → (b && true && true) ≡ (b && true)
        last true = refl
        last false = refl
    go false e = rw e (rw (none (leb (g_f g) r.start.0) (in_page r.start.0 r.sectors)))
      where
        none : (b c : Bool) → (b && false && c) ≡ (b && false)
        none true c = refl
        none false c = refl

-- "the lowest run": the search as it was, over the bits of one page
unfoldable pub today_find : ℕ → ℕ → List ℕ → Option ℕ
today_find k i [] = None
today_find k i (x ∷ xs) = cond (all_clear k (x ∷ xs)) (Some i) (today_find k (suc i) xs)

clear-few : (k : ℕ) (l : List ℕ) → all_clear k l ≡ true → k ≤ length l
unfolding all_clear
clear-few zero l h = omega arith
clear-few (suc k) [] h = absurd (let z : ◌≡◌ {A = ℕ} 0 1 = cc in omega arith)
clear-few (suc k) (x ∷ l) h = go (is_zero x) h (clear-few k l)
  where
    go : (b : Bool) → (b && all_clear k l) ≡ true → (all_clear k l ≡ true → k ≤ length l) → suc k ≤ length (x ∷ l)
    go true h ih = omega (arith, ih h)
    go false h ih = absurd (let z : ◌≡◌ {A = ℕ} 0 1 = cc in omega arith)

pub find-today : (k i : ℕ) (l : List ℕ) → i + length l ≤ 4096 → find_run k i l ≡ today_find k i l
unfolding find_run today_find
find-today k i [] h = refl
find-today k i (x ∷ l) h = go (all_clear k (x ∷ l)) refl (find-today k (suc i) l (omega arith))
  where
    go : (b : Bool) → all_clear k (x ∷ l) ≡ b → find_run k (suc i) l ≡ today_find k (suc i) l
        → cond (in_page i k && all_clear k (x ∷ l)) (Some i) (find_run k (suc i) l) ≡ cond (all_clear k (x ∷ l)) (Some i) (today_find k (suc i) l)
    go true e ih =
        let f : k ≤ length (x ∷ l) = clear-few k (x ∷ l) e in
        let p : in_page i k ≡ true = le-leb (i % 4096 + k) 4096 (omega arith) in rw (e, p)
    go false e ih = rw (e, none (in_page i k)) ih
      where
        none : (b : Bool) → (b && false) ≡ false
        none true = refl
        none false = refl
