-- Wrong builds: "Writing table word c in the working image before the other sectors have landed", by a put and by a sync. Demand 3 is false of both. Assumes nothing.
use Rattle.std.specs.Prelude.{Some, None}
use mathlib.Core.Path.{◌≡◌, refl, ◌∙◌}
use mathlib.Core.Bool.{false}
use mathlib.Core.List.{List, [], ◌∷◌, Memᴰ}
use mathlib.Core.Logic.{◌⊎◌, inl, inr, ⊎_elim}
use Prim.Native.Nat.{ℕ, ◌*◌}
use native.Mathlib.Omega.{arith}
use native.Mathlib.Decide.{ℕ_discrete}
use lib.ListN.{length, take}
use Rattle.sectors.specs.Sectors.{sec, set_sec, Step, write, settle, copy_steps}
use Rattle.sectors.proofs.SectorLaws.{set_sec-length}
use Rattle.card.specs.Sound.{sound}
use Rattle.promises_answers.proofs.RowLaws.{clash}
use Rattle.promises_crash.proofs.ReadsBy.{reads-sound}
use Rattle.card.specs.Plan.{ended, done}
use Rattle.session.specs.Session.{Session}
use Rattle.store.specs.Steps.{set_word}
use Rattle.promises_crash.specs.History.{Pending, written, play, all_written, Left, World, by_number, edited}
use Rattle.promises_crash.proofs.Inv.{mk}
use Rattle.promises_crash.proofs.Play.{written-here, written-there, written-cases}
use Rattle.store.specs.Sync.{sync}
use Rattle.promises_crash.proofs.Demand.{card-possible}
use Rattle.promises_trials.proofs.TrialsCard.{b, seven, stretch, card_s, work_s, work_b, new_table, table_landed, table-unsound, computes}
use Rattle.promises_trials.proofs.TrialsRun.{synced, reach-synced, b-goes, put_b, reach-put_b, at-put_b}
use Rattle.promises_trials.proofs.TrialsSync.{CutsRead}
use Rattle.promises_trials.proofs.TrialsEdit.{PutsRead, some-landed, one-landed, early_put}
use Rattle.promises_trials.proofs.TrialsTable.{StepsRead, held}

-- ---- a put that writes it

-- the working image after such a put of `b`
unfoldable pub work_early : List ℕ
work_early = set_word 0 2 work_b

-- the card with its directory and its table landed, and nothing else
unfoldable pub early_landed : List ℕ
early_landed = set_sec (set_sec card_s 5 (sec work_early 5)) 1 (sec work_early 1)

-- it is not sound: it shows `b`, and the bitmap shows its sector free
early-reads : (length card_s ≡ 512 * 10) × (length work_early ≡ 512 * 10) × (sound early_landed ≡ false)
unfolding computes work_early early_landed
early-reads = (refl, refl, refl)

-- each sector is the working image's or the card's
early-each : (j : ℕ) → (sec early_landed j ≡ sec work_early j) ⊎ (sec early_landed j ≡ sec card_s j)
unfolding early_landed
early-each j =
    ⊎_elim inl (λ e. ⊎_elim (λ f. inl (e ∙ f)) (λ f. inr (e ∙ f)) (one-landed 10 5 card_s work_early early-reads.0 early-reads.1 (omega arith) j))
    (one-landed 10 1 _ work_early (set_sec-length card_s 5 (sec work_early 5) ∙ early-reads.0) early-reads.1 (omega arith) j)

early-done : early_put (Some (stretch 2)) work_s b seven ≡ record { answer = done 0; image = work_early }
unfolding early_put ended work_early work_b
early-done = rw b-goes

-- it is refused
pub word-early : ¬ PutsRead early_put
unfolding synced
word-early h = clash (reads-sound (reads_now early_landed left)) early-reads.2
  where
    reads_now : CutsRead (mk card_s work_early (Some (stretch 2)) (all_written work_early synced.pending) synced.last)
    reads_now = unfold synced edited by_number done in rw early-done at (h synced reach-synced b seven)

    left : Left (all_written work_early synced.pending) (length card_s) early_landed
    left = unfold synced in some-landed synced.pending card_s work_early early_landed (card-possible synced reach-synced).0 (unfold early_landed in (set_sec-length _ 1 _ ∙ set_sec-length card_s 5 (sec work_early 5))) early-each

-- ---- a sync that writes it first, and then copies the working image in rising order, the table with the rest

unfoldable pub copy_all : Session → List ℕ → List Step
copy_all None work = []
copy_all (Some s) work = copy_steps (set_word s.c.0 s.t.0 work) 0 s.geo.s (settle ∷ [])

-- the same at a world; none where the sync is refused
unfoldable pub copy_all_of : World → List Step
copy_all_of w = by_number (sync w.session w.card w.work).answer.number (copy_all w.session w.work) []

-- its first two steps write sector 0 and the table sector
two_steps : take 2 (copy_all_of put_b) ≡ write 0 (sec (set_word 0 2 work_b) 0) ∷ write 1 new_table ∷ []
unfolding copy_all_of copy_all copy_steps by_number new_table put_b
two_steps = rw at-put_b.1

-- what a sector may hold it may hold after one more write
written-more : (i : ℕ) (s : List ℕ) (p : Pending) (j : ℕ) {x : List ℕ} → Memᴰ x (p j) → Memᴰ x (written i s p j)
written-more i s p j {x} m = go (ℕ_discrete j i)
  where
    go : Dec (j ≡ i) → Memᴰ x (written i s p j)
    go (yes e) = rw (e, written-here i s p) (Memᴰ.tail (rw e at m))
    go (no o) = rw (written-there i s p j o) m

-- so a cut after them may leave the card on which the table and the directory have landed
two-left : Left (play (take 2 (copy_all_of put_b)) put_b.pending) (length put_b.card) table_landed
unfolding play
two-left = rw two_steps (record { sized = sized; held = λ j l. ⊎_elim (here j) (there j) (written-cases 1 new_table put_b.pending j _ (held j l)) })
  where
    sized : length table_landed ≡ length put_b.card
    sized = unfold table_landed put_b in (set_sec-length _ 1 new_table ∙ set_sec-length card_s 5 (sec work_b 5))

    first : List ℕ
    first = sec (set_word 0 2 work_b) 0

    here : (j : ℕ) → (j ≡ 1) × (sec table_landed j ≡ new_table) → Memᴰ (sec table_landed j) (written 1 new_table (written 0 first put_b.pending) j)
    here j q = rw (q.0, written-here 1 new_table (written 0 first put_b.pending)) (Memᴰ.head (rw q.0 at q.1))

    there : (j : ℕ) → Memᴰ (sec table_landed j) (put_b.pending j) → Memᴰ (sec table_landed j) (written 1 new_table (written 0 first put_b.pending) j)
    there j q = written-more 1 new_table (written 0 first put_b.pending) j (written-more 0 first put_b.pending j q)

-- it is not sound, so it reads as neither list
pub table-early-cut : ¬ StepsRead copy_all_of
table-early-cut h =
    ⊎_elim (λ r. clash (reads-sound r) table-unsound) (λ r. clash (reads-sound r) table-unsound) (h put_b reach-put_b 2 table_landed two-left)
