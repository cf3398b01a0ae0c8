-- The lowest run, page by page: the lowest in the first page that has one; at or after a goal, and below it. Assumes nothing.
use Rattle.std.specs.Prelude.{Option, Some, None}
use mathlib.Core.Path.{◌≡◌, refl, sym, ap, ◌∙◌}
use mathlib.Core.Bool.{Bool, true, false, cond, ◌&&◌}
use mathlib.Core.List.{List, [], ◌∷◌, ◌++◌}
use Prim.Native.Nat.{ℕ, zero, suc, ◌+◌, ◌-◌, ◌*◌, ◌/◌, ◌%◌, ◌≤◌, ◌<◌, min}
use native.Mathlib.Omega.{arith}
use borrow.Author.Tests.{leb-true}
use lib.ListN.{length, drop, length-drop}
use lib.Seq.{drop-drop, drop-append-add}
use Rattle.words.specs.Lists.{is_zero, or_else}
use Rattle.words.proofs.FirstLaws.{not_at}
use Rattle.sectors.specs.Sectors.{Cells, sec}
use Rattle.sectors.proofs.SectorLaws.{sec-length}
use Rattle.counts.specs.declared.Geo.{Geo}
use Rattle.counts.specs.Geometry.{g_p, in_page}
use Rattle.counts.specs.Inner.{LaidOut}
use Rattle.apages.specs.Bits.{bits_of}
use Rattle.apages.proofs.BitLaws.{bits-length}
use Rattle.apages.specs.Runs.{merge, all_clear, find_run, run_after, lowest_run}
use Rattle.apages.proofs.LowestLaws.{merge-length}
use Rattle.apages.proofs.Reach.{page-reach}
use Rattle.apages.specs.Index.{group_of, index_in, shown_page, page_at, map_from, page_in}
use Rattle.apages.specs.Inner.{PairIn, merge_from, run_from, run_within, further}
use Rattle.apages.proofs.PassLaws.{shown-before}
use Rattle.apages.proofs.MapLaws.{Wide, bits-over}

further-nowhere : (d : ℕ) (a : Option ℕ) → further d a ≡ None → a ≡ None
unfolding further
further-nowhere d (Some i) e = not_at e
further-nowhere d None e = refl

pub merge-over : (a b c d : List ℕ) → length a ≡ length b → merge (a ++ c) (b ++ d) ≡ merge a b ++ merge c d
unfolding merge
merge-over [] [] c d h = refl
merge-over [] (y ∷ b) c d h = absurd (omega arith)
merge-over (x ∷ a) [] c d h = absurd (omega arith)
merge-over (x ∷ a) (y ∷ b) c d h = ap (λ (l : List ℕ). (x + y) ∷ l) (merge-over a b c d (omega arith))

-- the first k of a list that has k
clear-front : (k : ℕ) (l m : List ℕ) → k ≤ length l → all_clear k (l ++ m) ≡ all_clear k l
unfolding all_clear
clear-front zero l m h = refl
clear-front (suc k) [] m h = absurd (omega arith)
clear-front (suc k) (x ∷ l) m h = ap (λ (b : Bool). is_zero x && b) (clear-front k l m (omega arith))

-- no run starts in what is left of a page and ends past it
find-over : (k p j : ℕ) (l m : List ℕ) → j + length l ≡ 4096 → find_run k (4096 * p + j) (l ++ m) ≡ or_else (find_run k (4096 * p + j) l) (find_run k (4096 * suc p) m)
unfolding find_run or_else
find-over k p j [] m h = let e : 4096 * p + j ≡ 4096 * suc p = omega arith in rw e
find-over k p j (x ∷ l) m h = go (in_page (4096 * p + j) k) refl (find-over k p (suc j) l m (omega arith))
  where
    next : 4096 * p + suc j ≡ suc (4096 * p + j)
    next = omega arith

    sides : (c : Bool) → find_run k (suc (4096 * p + j)) (l ++ m) ≡ or_else (find_run k (suc (4096 * p + j)) l) (find_run k (4096 * suc p) m)
        → cond c (Some (4096 * p + j)) (find_run k (suc (4096 * p + j)) (l ++ m)) ≡ or_else (cond c (Some (4096 * p + j)) (find_run k (suc (4096 * p + j)) l)) (find_run k (4096 * suc p) m)
    sides true ih = unfold or_else in refl
    sides false ih = ih

    go : (b : Bool) → in_page (4096 * p + j) k ≡ b → find_run k (4096 * p + suc j) (l ++ m) ≡ or_else (find_run k (4096 * p + suc j) l) (find_run k (4096 * suc p) m)
        → cond (in_page (4096 * p + j) k && all_clear k (x ∷ (l ++ m))) (Some (4096 * p + j)) (find_run k (suc (4096 * p + j)) (l ++ m))
        ≡ or_else (cond (in_page (4096 * p + j) k && all_clear k (x ∷ l)) (Some (4096 * p + j)) (find_run k (suc (4096 * p + j)) l)) (find_run k (4096 * suc p) m)
    go true e ih =
        let z : (4096 * p + j) % 4096 + k ≤ 4096 = leb-true _ _ e in
        rw (e, clear-front k (x ∷ l) m (omega arith)) (sides (all_clear k (x ∷ l)) (rw next at ih))
    go false e ih = rw e (sides false (rw next at ih))

-- a search in one page, wherever the page stands
find-further : (k p j : ℕ) (l : List ℕ) → j + length l ≤ 4096 → find_run k (4096 * p + j) l ≡ further (4096 * p) (find_run k j l)
unfolding find_run further
find-further k p j [] h = refl
find-further k p j (x ∷ l) h =
    let e : (4096 * p + j) % 4096 ≡ j % 4096 = omega arith in
    let n : suc (4096 * p + j) ≡ 4096 * p + suc j = omega arith in
    rw (e, n, find-further k p (suc j) l (omega arith)) (sides (in_page j k && all_clear k (x ∷ l)))
  where
    sides : (c : Bool) → cond c (Some (4096 * p + j)) (further (4096 * p) (find_run k (suc j) l)) ≡ further (4096 * p) (cond c (Some j) (find_run k (suc j) l))
    sides true = unfold further in refl
    sides false = refl

or-else-over : (a b c : Option ℕ) → or_else (or_else a b) c ≡ or_else a (or_else b c)
unfolding or_else
or-else-over (Some i) b c = refl
or-else-over None b c = refl

or-nowhere : (a : Option ℕ) → or_else a None ≡ a
unfolding or_else
or-nowhere (Some i) = refl
or-nowhere None = refl

or-first : (a b : Option ℕ) → or_else a b ≡ None → a ≡ None
unfolding or_else
or-first (Some i) b e = not_at e
or-first None b e = refl

or-second : (a b : Option ℕ) → or_else a b ≡ None → b ≡ None
unfolding or_else
or-second (Some i) b e = not_at e
or-second None b e = e

drop-left : (j : ℕ) (l m : List ℕ) → j ≤ length l → drop j (l ++ m) ≡ drop j l ++ m
drop-left zero l m h = refl
drop-left (suc j) [] m h = absurd (omega arith)
drop-left (suc j) (x ∷ l) m h = drop-left j l m (omega arith)

module _ (g : Geo) (tp tc : List ℕ) (k : Cells) (c : ℕ) (wp : Wide g tp k) (wc : Wide g tc k) where
  -- one page's bits
  abbrev here : ℕ → List ℕ
  here p = merge (bits_of (page_at g tp k p)) (bits_of (page_at g tc k p))

  here-length : (p : ℕ) → p < g_p g → length (here p) ≡ 4096
  here-length p l =
      let la : length (bits_of (page_at g tp k p)) ≡ 4096 = bits-length (page_at g tp k p) ∙ ap (λ (i : ℕ). 8 * i) (wp p l) in
      let lb : length (bits_of (page_at g tc k p)) ≡ 4096 = bits-length (page_at g tc k p) ∙ ap (λ (i : ℕ). 8 * i) (wc p l) in
      merge-length (bits_of (page_at g tp k p)) (bits_of (page_at g tc k p)) (la ∙ sym lb) ∙ la

  merge-turn : (p n : ℕ) → p < g_p g → merge_from g tp tc k p (suc n) ≡ here p ++ merge_from g tp tc k (suc p) n
  unfolding merge_from map_from
  merge-turn p n l =
      let la : length (bits_of (page_at g tp k p)) ≡ 4096 = bits-length (page_at g tp k p) ∙ ap (λ (i : ℕ). 8 * i) (wp p l) in
      let lb : length (bits_of (page_at g tc k p)) ≡ 4096 = bits-length (page_at g tc k p) ∙ ap (λ (i : ℕ). 8 * i) (wc p l) in
      rw (bits-over (page_at g tp k p) (map_from g tp k (suc p) n), bits-over (page_at g tc k p) (map_from g tc k (suc p) n))
      (merge-over (bits_of (page_at g tp k p)) (bits_of (page_at g tc k p)) _ _ (la ∙ sym lb))

  -- the bits behind m pages
  merge-drop : (m p n : ℕ) → p + m ≤ g_p g → drop (4096 * m) (merge_from g tp tc k p (m + n)) ≡ merge_from g tp tc k (p + m) n
  merge-drop zero p n h = let e : p + 0 ≡ p = omega arith in let z : 0 + n ≡ n = omega arith in rw (e, z) refl
  merge-drop (suc m) p n h =
      let l = here-length p (omega arith) in
      let e : 4096 * suc m ≡ length (here p) + 4096 * m = omega arith in
      let f : suc m + n ≡ suc (m + n) = omega arith in
      let j : suc p + m ≡ p + suc m = omega arith in
      rw (e, f, merge-turn p (m + n) (omega arith), drop-append-add (here p) (merge_from g tp tc k (suc p) (m + n)) (4096 * m)) (merge-drop m (suc p) n (omega arith) ∙ ap (λ (q : ℕ). merge_from g tp tc k q n) j)

  -- from place j of page p on: the run in what is left of the page, or else in a later one
  turn_at : (p j n : ℕ) → p < g_p g → j ≤ 4096
      → find_run c (4096 * p + j) (drop j (merge_from g tp tc k p (suc n))) ≡ or_else (further (4096 * p) (run_after c j (page_at g tp k p) (page_at g tc k p))) (run_from g tp tc k c (suc p) n)
  unfolding run_from run_after
  turn_at p j n l h =
      let w = here-length p l in
      let left : j + length (drop j (here p)) ≡ 4096 = omega (arith, length-drop j (here p)) in
      let rest = merge_from g tp tc k (suc p) n in
      ap (λ (x : List ℕ). find_run c (4096 * p + j) (drop j x)) (merge-turn p n l)
      ∙ ap (λ (x : List ℕ). find_run c (4096 * p + j) x) (drop-left j (here p) rest (omega arith))
      ∙ find-over c p j (drop j (here p)) rest left
      ∙ ap (λ (o : Option ℕ). or_else o (find_run c (4096 * suc p) rest)) (find-further c p j (drop j (here p)) (omega arith))

  pub run-start : lowest_run c (page_in g tp k) (page_in g tc k) ≡ run_from g tp tc k c 0 (g_p g)
  unfolding lowest_run run_after run_from merge_from page_in
  run-start = refl

  pub run_end : (p : ℕ) → run_from g tp tc k c p 0 ≡ None
  unfolding run_from merge_from map_from bits_of merge find_run
  run_end p = refl

  pub run-turn : (p n : ℕ) → p < g_p g → run_from g tp tc k c p (suc n) ≡ or_else (further (4096 * p) (run_after c 0 (page_at g tp k p) (page_at g tc k p))) (run_from g tp tc k c (suc p) n)
  unfolding run_from
  run-turn p n l =
      let z : 4096 * p ≡ 4096 * p + 0 = omega arith in
      ap (λ (i : ℕ). find_run c i (merge_from g tp tc k p (suc n))) z ∙ (unfold run_from in turn_at p 0 n l (omega arith))

  -- the pages in two parts
  pub run-parts : (m p n : ℕ) → p + m ≤ g_p g → run_from g tp tc k c p (m + n) ≡ or_else (run_from g tp tc k c p m) (run_from g tp tc k c (p + m) n)
  unfolding or_else
  run-parts zero p n h = let e : p + 0 ≡ p = omega arith in let z : 0 + n ≡ n = omega arith in rw (e, z, run_end p)
  run-parts (suc m) p n h =
      let f : suc m + n ≡ suc (m + n) = omega arith in
      let j : suc p + m ≡ p + suc m = omega arith in
      rw (f, run-turn p (m + n) (omega arith), run-turn p m (omega arith), run-parts m (suc p) n (omega arith), j)
      (sym (or-else-over (further (4096 * p) (run_after c 0 (page_at g tp k p) (page_at g tc k p))) (run_from g tp tc k c (suc p) m) (run_from g tp tc k c (p + suc m) n)))

  -- at or after a sector: what is left of its page, and the later ones
  pub after_turn : (i n : ℕ) → i / 4096 + suc n ≡ g_p g
      → run_after c i (page_in g tp k) (page_in g tc k)
      ≡ or_else (further (4096 * (i / 4096)) (run_after c (i % 4096) (page_at g tp k (i / 4096)) (page_at g tc k (i / 4096)))) (run_from g tp tc k c (suc (i / 4096)) n)
  after_turn i n h =
      let z : 0 + i / 4096 ≡ i / 4096 = omega arith in
      let e : i ≡ 4096 * (i / 4096) + i % 4096 = omega arith in
      let d : drop i (merge_from g tp tc k 0 (g_p g)) ≡ drop (i % 4096) (merge_from g tp tc k (i / 4096) (suc n)) =
      ap (λ (m : ℕ). drop m (merge_from g tp tc k 0 (g_p g))) e ∙ sym (drop-drop (i % 4096) (4096 * (i / 4096)) (merge_from g tp tc k 0 (g_p g)))
      ∙ ap (λ (m : ℕ). drop (i % 4096) (drop (4096 * (i / 4096)) (merge_from g tp tc k 0 m))) (sym h)
      ∙ ap (λ (l : List ℕ). drop (i % 4096) l) (merge-drop (i / 4096) 0 (suc n) (omega arith) ∙ ap (λ (q : ℕ). merge_from g tp tc k q (suc n)) z) in
      as-merged i ∙ ap (λ (l : List ℕ). find_run c i l) d ∙ ap (λ (m : ℕ). find_run c m (drop (i % 4096) (merge_from g tp tc k (i / 4096) (suc n)))) e
      ∙ turn_at (i / 4096) (i % 4096) n (omega arith) (omega arith)
    where
      as-merged : (i : ℕ) → run_after c i (page_in g tp k) (page_in g tc k) ≡ find_run c i (drop i (merge_from g tp tc k 0 (g_p g)))
      as-merged i = unfold run_after merge_from page_in in refl

  -- where no run starts at or after a goal, the lowest lies in a page before the goal's, or in its page where a run from below the goal can reach
  pub below-goal : (goal : ℕ) → goal < 4096 * g_p g → 0 < c → run_after c goal (page_in g tp k) (page_in g tc k) ≡ None
      → lowest_run c (page_in g tp k) (page_in g tc k)
      ≡ or_else (run_from g tp tc k c 0 (goal / 4096))
      (further (4096 * (goal / 4096)) (run_within c 0 (min (goal % 4096 + c - 1) 4096) (page_at g tp k (goal / 4096)) (page_at g tc k (goal / 4096))))
  below-goal goal low some none =
      let e : m + suc n ≡ g_p g = omega arith in
      let y : 0 + m ≡ m = omega arith in
      let w : 8 * length pp ≡ 4096 = ap (λ (i : ℕ). 8 * i) (wp m (omega arith)) in
      let alike : length pp ≡ length pc = wp m (omega arith) ∙ sym (wc m (omega arith)) in
      let last : run_from g tp tc k c (0 + m) (suc n) ≡ further (4096 * m) (run_within c 0 (min (goal % 4096 + c - 1) 4096) pp pc) =
      ap (λ (q : ℕ). run_from g tp tc k c q (suc n)) y ∙ run-turn m n (omega arith)
      ∙ ap (λ (o : Option ℕ). or_else (further (4096 * m) (run_after c 0 pp pc)) o) (or-second _ _ later) ∙ or-nowhere _
      ∙ ap (λ (o : Option ℕ). further (4096 * m) o) (page-reach c (goal % 4096) pp pc some alike w (further-nowhere _ _ (or-first _ _ later))) in
      run-start ∙ ap (λ (i : ℕ). run_from g tp tc k c 0 i) (sym e) ∙ run-parts m 0 (suc n) (omega arith) ∙ ap (λ (o : Option ℕ). or_else (run_from g tp tc k c 0 m) o) last
    where
      m : ℕ
      m = goal / 4096

      n : ℕ
      n = g_p g - suc m

      pp : List ℕ
      pp = page_at g tp k m

      pc : List ℕ
      pc = page_at g tc k m

      later : or_else (further (4096 * m) (run_after c (goal % 4096) pp pc)) (run_from g tp tc k c (suc m) n) ≡ None
      later = sym (after_turn goal n (omega arith)) ∙ none

-- the pages of an image that has its pairs lie in it
pub pages-wide : (g : Geo) (img : List ℕ) → LaidOut g img → PairIn g img → (tab : List ℕ) → Wide g tab (sec img)
unfolding page_at
pages-wide g img laid pairs tab p l =
    let r = shown-before g p tab (group_of (index_in g (sec img)) p) l (pairs p l) in
    sec-length img (shown_page tab (group_of (index_in g (sec img)) p)) (omega (arith, r.1, laid.room, laid.dir))
