-- Trial stores: "one that stores nothing", "one that makes up the free or file count". Assumes nothing.
use Rattle.std.specs.Prelude.{Some}
use mathlib.Core.Path.{◌≡◌, refl, sym, ap, ◌∙◌}
use mathlib.Core.Bool.{true}
use mathlib.Core.List.{List, [], ◌∷◌}
use mathlib.Core.Logic.{◌≢◌}
use mathlib.Core.Option.{Option, none, some}
use Prim.Native.Nat.{ℕ, ◌+◌, ◌≤◌}
use native.Mathlib.Omega.{arith}
use lib.ListN.{length}
use Rattle.words.proofs.BoolLaws.{never}
use Rattle.sectors.specs.Sectors.{sec}
use Rattle.counts.specs.declared.Geo.{Geo}
use Rattle.counts.specs.Geometry.{g_f, geo_ok, geo_of, g_dir, g_p}
use Rattle.card.specs.declared.Line.{Line}
use Rattle.card.specs.Plan.{done, Changed}
use Rattle.card.specs.Files.{sectors_of}
use Rattle.card.specs.Sound.{shape_ok, sound}
use Rattle.card.specs.Make.{fresh_card}
use Rattle.card.proofs.FreshLaws.{fresh-geo, fresh-shape, fresh-sound, fresh-empty}
use Rattle.card.specs.Reading.{files_shown, read, read_list}
use Rattle.session.specs.declared.Opened.{Opened}
use Rattle.session.specs.Session.{Session}
use Rattle.session.specs.Fits.{fits}
use Rattle.session.specs.FitMeans.{Fits}
use Rattle.store.specs.Edit.{put}
use Rattle.store.specs.Given.{Room}
use Rattle.store.specs.Look.{list, free}
use Rattle.promises_answers.specs.PlainList.{Item, items, lookup, With, shown_by, shown_in}
use Rattle.promises_answers.specs.PlainCalls.{Lines}
use Rattle.promises_answers.proofs.ViewShows.{lines-length}
use Rattle.promises_answers.proofs.ShownProved.{session-shows, card-shows}
use Rattle.promises_crash.specs.Free.{FreePromise}
use Rattle.promises_crash.proofs.Free.FreeProved.{free-promise}
use Rattle.promises_answers.proofs.AnswersProved.{put-answers}
use Rattle.promises_crash.proofs.ReadsBy.{reads-shape, reads-sound}
use Rattle.promises_crash.proofs.Demand.{card-possible}
use Rattle.promises_answers.proofs.LookLaws.{with-look}
use Rattle.promises_trials.proofs.TrialsCard.{ten, ten-ok, a, seven}
use Rattle.promises_trials.proofs.TrialsRun.{mounted, synced, reach-synced, at-mounted, at-synced}

-- ---- "one that stores nothing"

-- what `PutAnswers` says, of any put
abbrev pub PutAnswersOf : (Session → List ℕ → List ℕ → List ℕ → Changed) → Type 0
PutAnswersOf p = (s : Session) (work n d : List ℕ) → (p s work n d).answer.number ≡ 0 → With n d (shown_in s work) (shown_in s (p s work n d).image)

-- of the put of this store it is proved
pub of-this-put : PutAnswersOf put
unfolding put
of-this-put s work n d = put-answers s work n d 0

-- a put that answers as this one does, and stores nothing
unfoldable pub idle_put : Session → List ℕ → List ℕ → List ℕ → Changed
idle_put s work n d = record { answer = (put s work n d).answer; image = work }

-- a list that does not have the content under the name is no answer to put, whatever it was before
pub not-with : (n d : List ℕ) (l m : List Item) → lookup n m ≢ some d → ¬ With n d l m
not-with n d l m o w = o (with-look n d l m w)

-- nothing is not something
none-some : (x : Option (List ℕ)) (d : List ℕ) → x ≡ none → x ≢ some d
none-some x d p q = never (cc)

-- it is refused: `a` with one byte, on a fresh card
pub stores-nothing : ¬ PutAnswersOf idle_put
unfolding idle_put
stores-nothing h =
    not-with a seven _ _ (none-some _ seven at-mounted.1) (h mounted.session mounted.work a seven at-mounted.0)

-- ---- "one that makes up the free or file count"

-- the least card, S = 7
abbrev pub least : Geo
least = record { s = 7; t = 1; d = 1 }

-- inside the limits
least-ok : geo_ok least ≡ true
unfolding geo_ok g_f g_dir g_p
least-ok = refl

-- a fresh card shows nothing
fresh-none : (g : Geo) → geo_ok g ≡ true → shown_by (fresh_card g) ≡ []
unfolding shown_by items
fresh-none g ok = rw (fresh-empty g ok)

-- a list that has a name is not empty
has_some : (l : List Item) (n d : List ℕ) → lookup n l ≡ some d → length l ≢ 0
unfolding lookup
has_some [] n d p e = never (cc)
has_some (x ∷ l) n d p e = absurd (omega (arith, e))

-- a call that keeps what is promised of free gives this store's figures, both
pub free-true : (f : Session → List ℕ → Room) → FreePromise f → (s : Opened) (work : List ℕ) → Fits s work → f (Some s) work ≡ free (Some s) work
free-true f h s work fit =
    let x = h s work fit in
    let y = free-promise s work fit in
    same-room (x.number ∙ sym y.number) (x.clears ∙ sym y.clears) (x.waits ∙ sym y.waits)
  where
    same-room : {a b : Room} → a.number ≡ b.number → a.free ≡ b.free → a.waiting ≡ b.waiting → a ≡ b
    same-room p q r = λ i. record { number = p i; free = q i; waiting = r i }

-- where a card is read, a count that adds up to S is the clear bits shown
pub read-free-true : (card : List ℕ) → shape_ok card ≡ true → sound card ≡ true
    → (k : ℕ) → k + sectors_of (files_shown card) + g_f (geo_of (sec card)) ≡ (geo_of (sec card)).s → k ≡ (read card).free
read-free-true card p q k h = omega (arith, h, (card-shows card p q).counts.4)

-- lines that tell the names and lengths of the files, one line a file, are as many as this store's list counts
pub list-true : (s : Opened) (work : List ℕ) → fits s work ≡ true → (ls : List Line) → Lines (shown_in (Some s) work) ls
    → (lines : List Line) → length (shown_in (Some s) work) ≤ length lines → length ls ≡ (list (Some s) work lines).answer.count
unfolding done
list-true s work f ls t lines h = sym (lines-length t) ∙ sym (ap (λ r. r.answer.count) ((session-shows s work f).lists lines h))

-- and as many as reading reports
pub read-files-true : (card : List ℕ) → shape_ok card ≡ true → sound card ≡ true → (ls : List Line) → Lines (shown_by card) ls → length ls ≡ (read card).files
read-files-true card p q ls t = sym (lines-length t) ∙ sym (card-shows card p q).counts.3

-- the same for the list of a card
pub read-list-true : (card : List ℕ) → shape_ok card ≡ true → sound card ≡ true → (ls : List Line) → Lines (shown_by card) ls
    → (lines : List Line) → length (shown_by card) ≤ length lines → length ls ≡ (read_list card lines).answer.count
unfolding done
read-list-true card p q ls t lines h = sym (lines-length t) ∙ sym (ap (λ r. r.answer.count) ((card-shows card p q).lists lines h))

-- a free count that is the same on every card
pub free-fixed : (k : ℕ) → ¬ ((card : List ℕ) → shape_ok card ≡ true → sound card ≡ true
    → k + sectors_of (files_shown card) + g_f (geo_of (sec card)) ≡ (geo_of (sec card)).s)
unfolding sectors_of g_f g_dir g_p
free-fixed k h =
    let x : k + 0 + 6 ≡ 10 = rw (fresh-empty ten ten-ok, fresh-geo ten ten-ok) at (h (fresh_card ten) (fresh-shape ten ten-ok) (fresh-sound ten ten-ok)) in
    let y : k + 0 + 6 ≡ 7 = rw (fresh-empty least least-ok, fresh-geo least least-ok) at (h (fresh_card least) (fresh-shape least least-ok) (fresh-sound least least-ok)) in
    absurd (omega (arith, x, y))

-- a file count that is the same on every card
pub files-fixed : (k : ℕ) → ¬ ((card : List ℕ) → shape_ok card ≡ true → sound card ≡ true → k ≡ length (shown_by card))
files-fixed k h =
    let r = (card-possible synced reach-synced).1 in
    let x : k ≡ 0 = h (fresh_card ten) (fresh-shape ten ten-ok) (fresh-sound ten ten-ok) ∙ ap length (fresh-none ten ten-ok) in
    let y : k ≡ length synced.last = h synced.card (reads-shape r) (reads-sound r) ∙ ap length r.shows in
    has_some synced.last a seven at-synced (sym y ∙ x)
