-- The trial store "whose first sync lands and whose later ones only say so": demand 3 is false of it. Assumes nothing.
use mathlib.Core.Path.{◌≡◌, refl, sym, ap, ◌∙◌}
use mathlib.Core.Bool.{cond}
use mathlib.Core.List.{List, []}
use mathlib.Core.Logic.{◌≢◌}
use mathlib.Core.Option.{none, some}
use Prim.Native.Nat.{ℕ}
use lib.ListN.{length}
use Rattle.words.proofs.BoolLaws.{never}
use Rattle.sectors.specs.Sectors.{Step}
use Rattle.session.specs.Session.{Session}
use Rattle.store.specs.Mount.{Ended}
use Rattle.store.specs.Sync.{sync}
use Rattle.promises_answers.specs.PlainList.{Item, lookup, shown_in}
use Rattle.promises_crash.specs.History.{play, Left, World, by_number, stepped, after, sync_c, steps_of, Reach, call, Reads}
use Rattle.promises_crash.proofs.Demand.{demand-three, card-possible}
use Rattle.promises_trials.proofs.TrialsCard.{b, seven}
use Rattle.promises_trials.proofs.TrialsRun.{is_first, put_a, put_b, reach-put_b, at-put_a, at-put_b}

-- what demand 3 says of the cuts at one world
abbrev pub CutsRead : World → Type 0
CutsRead w = (card : List ℕ) → Left w.pending (length w.card) card → Reads card w.last

-- the world after a sync that gives r and takes these steps on the card
abbrev pub after_sync : World → Ended → List Step → World
after_sync w r steps = stepped w r steps (shown_in w.session w.work)

-- demand 3 at the end of every sync, of any sync: what it gives, and its steps
abbrev pub SyncsRead : (Session → List ℕ → List ℕ → Ended) → (World → List Step) → Type 0
SyncsRead f steps = (w : World) → Reach w → CutsRead (after_sync w (f w.session w.card w.work) (steps w))

-- of the sync of this store it is proved
pub of-this-sync : SyncsRead sync (steps_of sync_c)
unfolding after
of-this-sync w r = (demand-three (after sync_c w) (call r sync_c)).0

-- a sync that gives 0 and takes no step, whatever session and images it leaves, in a session that shows other files than those of the latest moment
pub only-says : (w : World) → Reach w → (r : Ended) → r.answer.number ≡ 0 → length r.card ≡ length w.card → shown_in w.session w.work ≢ w.last
    → ¬ CutsRead (after_sync w r [])
unfolding stepped play by_number
only-says w reach r z l o h =
    let (left, reads) = card-possible w reach in
    let reads_now : CutsRead (record { card = r.card; work = r.work; session = r.session; pending = w.pending; last = shown_in w.session w.work }) = rw z at h in
    o (sym (reads_now w.card (rw l left)).shows ∙ reads.shows)

-- ---- "one whose first sync lands and whose later ones only say so"

-- answers as sync does, the session and the working image too, and the card stays as it is
unfoldable pub only_says : Session → List ℕ → List ℕ → Ended
only_says s card work =
    record { answer = (sync s card work).answer; session = (sync s card work).session; card = card; work = (sync s card work).work }

-- the first sync lands, later ones only say so
unfoldable pub late_sync : Session → List ℕ → List ℕ → Ended
late_sync s card work = cond (is_first s) (sync s card work) (only_says s card work)

-- and their steps
unfoldable pub late_steps : World → List Step
late_steps w = cond (is_first w.session) (steps_of sync_c w) []

-- lists of which one has a name and the other has not
pub some-none : (l m : List Item) (n d : List ℕ) → lookup n l ≡ some d → lookup n m ≡ none → l ≢ m
some-none l m n d p q e = let u : none ≡ some d = sym q ∙ ap (lookup n) (sym e) ∙ p in never (cc)

-- it does as this store does up to the world `put_b`: its first sync is this store's
pub late-first : after_sync put_a (late_sync put_a.session put_a.card put_a.work) (late_steps put_a) ≡ after sync_c put_a
unfolding late_sync late_steps after
late-first = rw at-put_a.0

-- there its second sync gives 0, and a cut loses `b`
pub late-says-so : ¬ SyncsRead late_sync late_steps
unfolding late_sync late_steps only_says
late-says-so h =
    let k : CutsRead (after_sync put_b (only_says put_b.session put_b.card put_b.work) []) = rw at-put_b.0 at (h put_b reach-put_b) in
    only-says put_b reach-put_b (only_says put_b.session put_b.card put_b.work) at-put_b.1 refl
    (some-none _ _ b seven at-put_b.3 at-put_b.2) k

-- a sync that never lands anything is refused too
pub never-lands : ¬ SyncsRead only_says (λ w. [])
unfolding only_says
never-lands h =
    only-says put_b reach-put_b (only_says put_b.session put_b.card put_b.work) at-put_b.1 refl
    (some-none _ _ b seven at-put_b.3 at-put_b.2) (h put_b reach-put_b)
