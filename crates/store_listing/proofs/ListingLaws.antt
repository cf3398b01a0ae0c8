-- A listing goes before the lines: they have room, and what it fills is what list and reading's list say. Assumes nothing.
use Rattle.std.specs.Prelude.{Option, Some, None, IsSome}
use Rattle.counts.specs.Stamps.{table_in}
use Rattle.directory.specs.Directory.{entries_of}
use Rattle.card_files.specs.declared.Next.{Next}
use Rattle.card_files.specs.Inner.{IsNext}
use mathlib.Core.Path.{◌≡◌, refl, sym, ap, subst, ◌∙◌}
use mathlib.Core.Bool.{Bool, true, false, cond}
use mathlib.Core.List.{List, [], ◌∷◌, ◌++◌}
use Prim.Native.Nat.{ℕ, zero, suc, ◌+◌, ◌≤◌, ◌<◌}
use native.Mathlib.Omega.{arith}
use borrow.Author.Tests.{leb-true}
use lib.Dec.{leb}
use lib.ListN.{length, take, drop, get_or, set, length-set, length-drop}
use lib.Seq.{take-length, drop-set-lt, drop-drop, get_or-drop}
use Rattle.sectors.specs.Sectors.{sec}
use Rattle.counts.specs.declared.Geo.{Geo}
use Rattle.counts.specs.declared.View.{View}
use Rattle.counts.specs.Inner.{LaidOut}
use Rattle.card.specs.declared.Line.{Line}
use Rattle.card.specs.Plan.{guard, ended, go_ahead, refused, done, Listed}
use Rattle.card.specs.Files.{no_line, list_plan, list_end}
use Rattle.session.specs.declared.Opened.{Opened}
use Rattle.session.specs.Session.{Session}
use Rattle.session.specs.Views.{present_view, present_table, present_files, session_files}
use Rattle.session.specs.Fits.{fits}
use Rattle.store.specs.Look.{list_tests, list}
use Rattle.store.proofs.ViewLaws.{fit-laid}
use Rattle.store_listing.specs.Listings.{Listing, files_by, files_at, files_from, no_listing, listing_in, session_listing, filled_to}
use Rattle.store_listing.proofs.ListingText.{in-text, session-text}
use Rattle.store_listing.specs.Inner.{HasRoom}

-- ---- the table with its first lines filled

pub length-filled_to : (files : List Line) (n : ℕ) (lines : List Line) → length (filled_to files n lines) ≡ length lines
unfolding filled_to
length-filled_to files zero lines = refl
length-filled_to files (suc n) lines = length-set (filled_to files n lines) n _ ∙ length-filled_to files n lines

fill-next : (files lines : List Line) (n : ℕ) → n < length files → n < length lines
    → set (take n files ++ drop n lines) n (get_or files n no_line) ≡ take (suc n) files ++ drop (suc n) lines
fill-next [] lines n p q = absurd (omega arith)
fill-next (f ∷ fs) [] n p q = absurd (omega arith)
fill-next (f ∷ fs) (l ∷ ls) zero p q = refl
fill-next (f ∷ fs) (l ∷ ls) (suc n) p q = ap (λ (r : List Line). f ∷ r) (fill-next fs ls n (omega arith) (omega arith))

-- the first n lines are those of the first n files; later lines stay
pub filled_to-is : (files : List Line) (n : ℕ) (lines : List Line) → n ≤ length files → n ≤ length lines → filled_to files n lines ≡ take n files ++ drop n lines
unfolding filled_to
filled_to-is files zero lines p q = refl
filled_to-is files (suc n) lines p q =
    ap (λ (r : List Line). set r n (get_or files n no_line)) (filled_to-is files n lines (omega arith) (omega arith)) ∙ fill-next files lines n (omega arith) (omega arith)

-- ---- the files that are left, from an entry on

pub from_start : (l : Listing) (img : List ℕ) → files_from l img 0 ≡ drop 0 (files_at l img)
unfolding files_from files_at files_by
from_start l img = refl

-- of files, the first i of which are stored, one more is
pub from_next : (files : List Line) (i : ℕ) (left later : List Line) → left ≡ drop i files → later ≡ drop 1 left → later ≡ drop (i + 1) files
from_next files i left later e f = f ∙ ap (drop 1) e ∙ drop-drop 1 i files

-- the line of the next one
pub line-next : (files : List Line) (i : ℕ) (left : List Line) (r : Line) → left ≡ drop i files → r ≡ get_or left 0 no_line → r ≡ get_or files i no_line
line-next files i left r e f =
    let z : i + 0 ≡ i = omega arith in
    f ∙ ap (λ (l : List Line). get_or l 0 no_line) e ∙ get_or-drop i files 0 no_line ∙ ap (λ (m : ℕ). get_or files m no_line) z

-- there is a next one as long as files are left
pub next-there : (l : Listing) (img : List ℕ) (i j : ℕ) (o : Option Next) → files_from l img j ≡ drop i (files_at l img) → i < length (files_at l img)
    → IsNext (table_in l.geo l.view (sec img)) (entries_of l.geo (sec img)) j o → IsSome o
unfolding files_from
next-there l img i j None e h n = absurd (omega (arith, ap length (sym n ∙ e), length-drop i (files_at l img)))
next-there l img i j (Some x) e h n = refl

-- its line, and the files behind it
pub next-told : (l : Listing) (img : List ℕ) (j : ℕ) (o : Option Next) (x : Next) → IsNext (table_in l.geo l.view (sec img)) (entries_of l.geo (sec img)) j o → o ≡ Some x
    → (x.line ≡ get_or (files_from l img j) 0 no_line) × (files_from l img x.after ≡ drop 1 (files_from l img j))
unfolding files_from
next-told l img j o x n e =
    let m = subst (IsNext (table_in l.geo l.view (sec img)) (entries_of l.geo (sec img)) j) e n in
    (rw m refl, rw m refl)

-- its lines have room, and are no more than its files
abbrev pub Ready : Listing → List ℕ → ℕ → Type 0
Ready l img room = HasRoom l img room × (l.answer.count ≤ length (files_at l img))

pub none-ready : (k : ℕ) (img : List ℕ) (room : ℕ) → Ready (no_listing k) img room
unfolding no_listing refused
none-ready k img room = ((omega arith, λ h. absurd (omega (arith, h))), omega arith)

pub in-ready : (g : Geo) (v : View) (img : List ℕ) (room : ℕ) → LaidOut g img → Ready (listing_in g v img room) img room
unfolding done files_at
in-ready g v img room laid = rw (in-text g v img room) (go (leb (length (files_by g v img)) room) refl)
  where
    go : (b : Bool) → leb (length (files_by g v img)) room ≡ b
        → Ready (cond b (record { answer = done (length (files_by g v img)); geo = g; view = v }) (no_listing 10)) img room
    go true e = ((leb-true _ _ e, λ _. laid), omega arith)
    go false e = none-ready 10 img room

pub list-ready : (s : Session) (work : List ℕ) (room : ℕ) → Ready (session_listing s work room) work room
unfolding session_listing list_tests ended
list-ready None work room = none-ready 4 work room
list-ready (Some s) work room = subst (λ (l : Listing). Ready l work room) (sym (session-text s work room)) (go (fits s work) refl)
  where
    go : (b : Bool) → fits s work ≡ b → Ready (cond b (listing_in s.geo (present_view s) work room) (no_listing 2)) work room
    go true e = in-ready s.geo (present_view s) work room (fit-laid s work e)
    go false e = none-ready 2 work room

-- ---- what a listing answers, and the lines it fills, are a definition's

abbrev pub Fills : Listing → List ℕ → List Line → Listed → Type 0
Fills l img lines d = (l.answer ≡ d.answer) × (filled_to (files_at l img) l.answer.count lines ≡ d.lines)

pub none-fills : (k : ℕ) (img : List ℕ) (lines : List Line) → Fills (no_listing k) img lines (record { answer = refused k; lines = lines })
unfolding no_listing refused filled_to
none-fills k img lines = (refl, refl)

pub in-fills : (g : Geo) (v : View) (img : List ℕ) (lines : List Line)
    → Fills (listing_in g v img (length lines)) img lines (list_end (files_by g v img) lines (list_plan (files_by g v img) (length lines)))
unfolding list_plan list_end guard ended done files_at
in-fills g v img lines = rw (in-text g v img (length lines)) (go (leb (length (files_by g v img)) (length lines)) refl)
  where
    fs : List Line
    fs = files_by g v img

    go : (b : Bool) → leb (length fs) (length lines) ≡ b
        → Fills (cond b (record { answer = done (length fs); geo = g; view = v }) (no_listing 10)) img lines (list_end fs lines (guard 10 b go_ahead))
    go true e = (refl, filled_to-is fs (length fs) lines (omega arith) (leb-true _ _ e) ∙ ap (λ (r : List Line). r ++ drop (length fs) lines) (take-length fs))
    go false e = none-fills 10 img lines

open-fills : (s : Opened) (work : List ℕ) (lines : List Line) (b : Bool)
    → Fills (cond b (listing_in s.geo (present_view s) work (length lines)) (no_listing 2)) work lines
    (list_end (present_files s (sec work)) lines (guard 2 b (list_plan (present_files s (sec work)) (length lines))))
unfolding guard list_end ended present_files present_table files_by
open-fills s work lines true = in-fills s.geo (present_view s) work lines
open-fills s work lines false = none-fills 2 work lines

pub list-fills : (s : Session) (work : List ℕ) (lines : List Line) → Fills (session_listing s work (length lines)) work lines (list s work lines)
unfolding session_listing list_tests list list_end session_files ended
list-fills None work lines = none-fills 4 work lines
list-fills (Some s) work lines =
    subst (λ (l : Listing). Fills l work lines (list (Some s) work lines)) (sym (session-text s work (length lines))) (open-fills s work lines (fits s work))

-- ---- "later lines stay", whatever is answered, and the table keeps its length

abbrev pub Stay : List Line → Listed → Type 0
Stay lines d = (drop d.answer.count d.lines ≡ drop d.answer.count lines) × (length d.lines ≡ length lines)

later-stay : (files : List Line) (n m : ℕ) (lines : List Line) → n ≤ m → drop m (filled_to files n lines) ≡ drop m lines
unfolding filled_to
later-stay files zero m lines h = refl
later-stay files (suc n) m lines h = drop-set-lt m (filled_to files n lines) n _ (omega arith) ∙ later-stay files n m lines (omega arith)

pub fills-stay : (l : Listing) (img : List ℕ) (lines : List Line) (d : Listed) → Fills l img lines d → Stay lines d
fills-stay l img lines d (p, q) =
    (rw (← q, ← p) (later-stay (files_at l img) l.answer.count l.answer.count lines (omega arith)), rw (← q) (length-filled_to (files_at l img) l.answer.count lines))

pub list-stay : (s : Session) (work : List ℕ) (lines : List Line) → Stay lines (list s work lines)
list-stay s work lines = fills-stay _ _ _ _ (list-fills s work lines)
