-- A line at a position of a view's files, and what get asks. Assumes nothing.
use Rattle.std.specs.Prelude.{Option, Some, None, Ok, slice_get}
use Rattle.std.proofs.Common.{inl, inr, ◌⊎◌}
use Rattle.std.proofs.lemmas.Option.{slice_get_cases, get_or_from_slice_get}
use Rattle.std.proofs.lemmas.List.{get_or_past}
use Rattle.std.proofs.lemmas.Bool.{lt-ltb, le-ltb}
use mathlib.Core.Path.{◌≡◌, sym, ◌∙◌}
use mathlib.Core.Bool.{Bool, true, false, cond}
use mathlib.Core.List.{List, [], ◌∷◌, ◌++◌}
use Prim.Native.Nat.{ℕ, suc, ◌+◌, ◌-◌, ◌*◌, ◌≤◌, ◌<◌}
use native.Mathlib.Nat.{zero-add}
use native.Mathlib.Omega.{arith}
use lib.ListN.{length, take, drop, get_or, length-drop}
use Rattle.words.proofs.SpliceLaws.{splice-parts}
use lib.Seq.{length-take-le}
use Rattle.words.specs.Lists.{first_at, splice}
use Rattle.words.proofs.BoolLaws.{never}
use Rattle.sectors.specs.Sectors.{sec}
use Rattle.counts.specs.declared.Geo.{Geo}
use Rattle.entries.specs.declared.Run.{Run}
use Rattle.entries.specs.Entries.{run_ok}
use Rattle.entries.proofs.PassLaws.{run_holds, run_room, run_is}
use Rattle.directory.specs.Directory.{entries_of}
use Rattle.directory.proofs.DirectoryLaws.{entries-lt}
use Rattle.card.specs.declared.Line.{Line}
use Rattle.card.specs.Answers.{lined_of}
use Rattle.card.specs.Plan.{go_ahead, ended}
use Rattle.card.specs.Files.{run_at, content_of, no_line, line_end}
use Rattle.card.proofs.PieceLaws.{content-run}
use Rattle.card.specs.Inner.{RunsOk}

-- ---- a line at a position

-- with its count, 1 where there is a line
pub line-counted : (files : List Line) (i : ℕ) → lined_of (Ok (slice_get files i)) ≡ line_end files i go_ahead
unfolding line_end ended
line-counted files i = go (slice_get_cases files i).1
  where
    go : ((x : Line) × (i < length files) × (slice_get files i ≡ Some x) × (get_or files i x ≡ x)) ⊎ ((length files ≤ i) × (slice_get files i ≡ None)) → lined_of (Ok (slice_get files i)) ≡ line_end files i go_ahead
    go (inl (x, l, e, f)) = rw (e, lt-ltb i (length files) l, get_or_from_slice_get files i x no_line e)
    go (inr (l, e)) = rw (e, le-ltb i (length files) l, get_or_past files i no_line l)

-- ---- what get asks

-- the part of an image that holds a run's content, put over the first bytes of the output
pub content-lent : (img out : List ℕ) (r : Run) {a : ℕ} {x : List ℕ} → (512 * r.start.0 + r.bytes ≤ length img) × (r.bytes ≤ 512 * r.sectors) → r.bytes ≤ length out → a ≡ 512 * r.start.0
    → x ≡ take (a + r.bytes - a) (drop a img) → x ++ drop r.bytes out ≡ splice out 0 (content_of img r)
content-lent img out r {a} {x} (h, k) l p e =
    let z : a + r.bytes - a ≡ r.bytes = omega arith in
    let f : x ≡ content_of img r = rw (content-run img r k) (rw (z, p) at e) in
    let n : length (content_of img r) ≡ r.bytes = rw (content-run img r k) (length-take-le _ _ (omega (arith, length-drop (512 * r.start.0) img))) in
    rw f (sym (splice-parts out 0 (content_of img r) (omega arith) ∙ rw (n, zero-add r.bytes)))

-- a search finds an entry that is there
first-lt : {A : Type 0} (f : A → Bool) (i : ℕ) (l : List A) (j : ℕ) → first_at f i l ≡ Some j → j < i + length l
unfolding first_at
first-lt f i [] j e = never (cc)
first-lt f i (x ∷ xs) j e = go (f x) e (first-lt f (suc i) xs j)
  where
    go : (b : Bool) → cond b (Some i) (first_at f (suc i) xs) ≡ Some j → (first_at f (suc i) xs ≡ Some j → j < suc i + length xs) → j < i + suc (length xs)
    go true q ih = let z : i ≡ j = cc in omega arith
    go false q ih = omega (arith, ih q)

pub found_lt : {A : Type 0} (f : A → Bool) (l : List A) (j n : ℕ) {o : Option ℕ} → o ≡ first_at f 0 l → o ≡ Some j → length l ≡ n → j < n
found_lt f l j n e q h = omega (arith, first-lt f 0 l j (sym e ∙ q))

-- the bytes of a run that is well formed lie in its sectors, and in the image
pub room-here : (g : Geo) (tab img : List ℕ) (j : ℕ) (r : Run) → RunsOk g tab (entries_of g (sec img)) → j < 4 * g.d → length img ≡ 512 * g.s → r ≡ run_at g tab img j
    → (512 * r.start.0 + r.bytes ≤ length img) × (r.bytes ≤ 512 * r.sectors)
unfolding run_at
room-here g tab img j r runs h l e =
    let ok : run_ok g r ≡ true = rw e (runs j (entries-lt g img j h)) in
    let R = run_is g r ok in
    (omega (arith, run_holds g r R, run_room g r R), run_holds g r R)
