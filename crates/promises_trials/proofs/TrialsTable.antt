-- The trial store "whose sync writes the table sector first" at a cut between its steps: demand 3 is false of it. Assumes nothing.
use Rattle.std.specs.Prelude.{Some, None}
use mathlib.Core.Path.{◌≡◌, refl, ◌∙◌}
use mathlib.Core.List.{List, [], ◌∷◌, Memᴰ}
use mathlib.Core.Logic.{◌⊎◌, inl, inr, ⊎_elim, ◌≢◌}
use Prim.Native.Nat.{ℕ, ◌*◌, ◌<◌}
use native.Mathlib.Omega.{arith}
use native.Mathlib.Decide.{ℕ_discrete}
use lib.ListN.{length, take}
use Rattle.words.proofs.SpliceLaws.{splice-length}
use Rattle.sectors.specs.Sectors.{sec, set_sec, Step, write}
use Rattle.sectors.proofs.SectorLaws.{set_sec-length}
use Rattle.sectors.proofs.FlatLaws.{sec-in, set_here, set_there}
use Rattle.session.specs.Session.{Session}
use Rattle.store.specs.Steps.{set_word, table_sector}
use Rattle.store.specs.Sync.{sync}
use Rattle.promises_answers.specs.PlainList.{shown_in}
use Rattle.promises_crash.specs.History.{written, play, all_written, Left, World, by_number, before, sync_c, steps_of, pending_in, Reach, Reads}
use Rattle.promises_answers.proofs.RowLaws.{clash}
use Rattle.promises_crash.proofs.ReadsBy.{reads-sound}
use Rattle.promises_crash.proofs.Play.{written-here, written-there}
use Rattle.promises_crash.proofs.Demand.{demand-three, card-possible}
use Rattle.promises_trials.proofs.TrialsCard.{new_table, table_landed, table-unsound}
use Rattle.promises_trials.proofs.TrialsRun.{put_b, reach-put_b, at-put_b, put_b-sized}
use Rattle.promises_trials.proofs.TrialsOrder.{table_first}

-- what demand 3 says of the cuts inside a sync, of any sync, by its steps: after any number of them
abbrev pub StepsRead : (World → List Step) → Type 0
StepsRead steps =
    (w : World) → Reach w → (n : ℕ) (card : List ℕ) → Left (play (take n (steps w)) w.pending) (length w.card) card
    → Reads card w.last ⊎ Reads card (shown_in w.session w.work)

-- of the sync of this store it is proved
pub of-these-steps : StepsRead (steps_of sync_c)
unfolding pending_in before
of-these-steps w r n card x = ⊎_elim inl (λ q. inr q.1) ((demand-three w r).1 sync_c n card x)

-- the steps of a sync that writes the table sector first
unfoldable pub first_by : Session → List ℕ → List ℕ → List Step
first_by None card work = []
first_by (Some s) card work = table_first s card work

-- the same at a world; none where the sync is refused
unfoldable pub table_first_of : World → List Step
table_first_of w = by_number (sync w.session w.card w.work).answer.number (first_by w.session w.card w.work) []

-- ---- `put_b`, and the first of these steps

-- it writes the table sector
first_step : take 1 (table_first_of put_b) ≡ write 1 new_table ∷ []
unfolding table_first_of first_by by_number table_first table_sector new_table put_b
first_step = rw at-put_b.1

-- what put has written
put-wrote : (j : ℕ) → Memᴰ (sec put_b.work j) (put_b.pending j)
unfolding put_b all_written
put-wrote j = Memᴰ.head refl

new-wide : length new_table ≡ 512
unfolding new_table set_word put_b
new-wide = sec-in (set_word 0 2 put_b.work) 10 1 (splice-length put_b.work _ _ ∙ put_b-sized.1) (omega arith)

dir-wide : length (sec put_b.work 5) ≡ 512
dir-wide = sec-in put_b.work 10 5 put_b-sized.1 (omega arith)

inner-sized : length (set_sec put_b.card 5 (sec put_b.work 5)) ≡ 512 * 10
inner-sized = set_sec-length put_b.card 5 (sec put_b.work 5) ∙ put_b-sized.0

-- the sectors of the card that is left
at_table : sec table_landed 1 ≡ new_table
unfolding table_landed put_b
at_table = set_here 10 _ new_table 1 inner-sized (omega arith) new-wide

at_other : (j : ℕ) → j ≢ 1 → sec table_landed j ≡ sec (set_sec put_b.card 5 (sec put_b.work 5)) j
unfolding table_landed put_b
at_other j o = set_there 10 _ new_table 1 inner-sized (omega arith) new-wide j o

-- each is one that the sector may hold
pub held : (j : ℕ) → 512 * j < length put_b.card → Memᴰ (sec table_landed j) (written 1 new_table put_b.pending j)
held j l = go (ℕ_discrete j 1) (ℕ_discrete j 5)
  where
    go : Dec (j ≡ 1) → Dec (j ≡ 5) → Memᴰ (sec table_landed j) (written 1 new_table put_b.pending j)
    go (yes e) d = rw (e, at_table, written-here 1 new_table put_b.pending) (Memᴰ.head refl)
    go (no o) (yes e) =
        rw (written-there 1 new_table put_b.pending j o, at_other j o, e, set_here 10 put_b.card (sec put_b.work 5) 5 put_b-sized.0 (omega arith) dir-wide)
        (put-wrote 5)
    go (no o) (no u) =
        rw (written-there 1 new_table put_b.pending j o, at_other j o, set_there 10 put_b.card (sec put_b.work 5) 5 put_b-sized.0 (omega arith) dir-wide j u)
        ((card-possible put_b reach-put_b).0.held j l)

-- so a cut after that step may leave this card
table-left : Left (play (take 1 (table_first_of put_b)) put_b.pending) (length put_b.card) table_landed
unfolding play
table-left =
    rw first_step
    (record { sized = unfold table_landed put_b in (set_sec-length _ 1 new_table ∙ set_sec-length put_b.card 5 (sec put_b.work 5)); held = held })

-- it is not sound, so it reads as neither list
pub table-first-cut : ¬ StepsRead table_first_of
table-first-cut h =
    ⊎_elim (λ r. clash (reads-sound r) table-unsound) (λ r. clash (reads-sound r) table-unsound) (h put_b reach-put_b 1 table_landed table-left)
