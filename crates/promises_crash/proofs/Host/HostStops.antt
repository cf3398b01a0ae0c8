-- What the functions that stop inside a call leave on the card is what a cut there may leave, at every number of steps; and the promise of host functions, joined.
-- Assumes nothing.
use Rattle.std.specs.Prelude.{Some, None}
use mathlib.Core.Path.{◌≡◌, refl, sym, ap, ◌∙◌}
use mathlib.Core.List.{List, []}
use Prim.Native.Nat.{ℕ, zero, suc, ◌+◌, ◌≤◌}
use native.Mathlib.Omega.{arith}
use native.Mathlib.Decide.{dec_le}
use lib.ListN.{length, take}
use lib.Seq.{take_all, take-length, take-nil}
use Rattle.sectors.specs.declared.Sector.{Sector}
use Rattle.sectors.specs.Sectors.{Step, apply_steps, lean}
use Rattle.sectors.proofs.Fewer.{lean-first, lean-reach}
use Rattle.card.specs.Plan.{Plan, ended, refused, done}
use Rattle.card.proofs.PlanLaws.{Num, no!, go!, ahead!, guard-num}
use Rattle.session.specs.declared.Opened.{Opened}
use Rattle.session.specs.Session.{Session}
use Rattle.store.specs.Steps.{past_table, mount_steps, sync_steps, all_steps, unmount_steps, all_down, synced_at, down_at}
use Rattle.store.specs.Mount.{Ended, mount_done, mount}
use Rattle.store.specs.Sync.{sync_done, sync, unmount_done, unmount}
use Rattle.store.proofs.SyncFewer.{sync-lean, down-lean}
use Rattle.store.proofs.Plans.{both-num, mount-num}
use Rattle.host_crossing.specs.Crossing.{decoded}
use Rattle.host_crossing.specs.FirstSteps.{first_of, mount_first, sync_first, unmount_first}
use Rattle.promises_crash.specs.History.{Pending, Left, World, Call, mount_c, sync_c, unmount_c, after_cut, by_number, end_open, before, syncs_by, unmounts_by, steps_of}
use Rattle.promises_crash.proofs.Possible.{steps-possible}
use Rattle.promises_crash.specs.HostRuns.{Held, AsCalls, Stops, HostHistories}
use Rattle.promises_crash.proofs.Host.HostRunsProved.{as-calls, kept-so}

-- ---- by the plan: its first steps on the card are those of the call, none where it is refused

first-image : {p : Plan} → Num p → (stop : ℕ → Ended) (on : ℕ → Sector → Ended) → ((k : ℕ) → (stop k).answer.number ≡ k) → ((j : ℕ) (a : Sector) → (on j a).answer.number ≡ 0)
    → (card : List ℕ) (n w : ℕ) (steps : List Step) → (first_of p card n steps w).image ≡ apply_steps (take n (by_number (ended p stop on).answer.number steps [])) card
unfolding first_of ended
first-image (no! k) stop on e z card n w steps = rw (e (suc k)) (unfold by_number in rw (take-nil {A = Step} n) (unfold apply_steps in refl))
first-image (go! j a) stop on e z card n w steps = rw (z j a) (unfold by_number in refl)

-- ---- every number of steps has a place

every-place : (m : ℕ) (card : List ℕ) (all : List Step) (n : ℕ) → (k : ℕ) × (take (length (lean m card (take k all))) (lean m card all) ≡ take n (lean m card all))
every-place m card all n = go (dec_le n (length (lean m card all)))
  where
    go : Dec (n ≤ length (lean m card all)) → (k : ℕ) × (take (length (lean m card (take k all))) (lean m card all) ≡ take n (lean m card all))
    go (yes h) = let (k, e) = lean-reach m all card n h in (k, sym (lean-first m k all card) ∙ e)
    go (no h) = (length all, rw (take-length all) (take-length (lean m card all) ∙ sym (take_all n (lean m card all) (omega arith))))

sync-places : (s : Opened) (card work : List ℕ) (n : ℕ) → (k : ℕ) × (take (synced_at s card work k) (sync_steps s card work []) ≡ take n (sync_steps s card work []))
unfolding synced_at
sync-places s card work n = rw (sync-lean s card work []) at (every-place (past_table s + 1) card (all_steps s work []) n)

down-places : (s : Opened) (card work : List ℕ) (n : ℕ) → (k : ℕ) × (take (down_at s card work k) (unmount_steps s card work) ≡ take n (unmount_steps s card work))
unfolding down_at
down-places s card work n = rw (down-lean s card work) at (every-place (past_table s + 1) card (all_down s work) n)

-- also where the call is refused
places-by : (steps : List Step) (far : ℕ → ℕ) → ((n : ℕ) → (k : ℕ) × (take (far k) steps ≡ take n steps)) → (number n : ℕ)
    → (k : ℕ) × (take (far k) (by_number number steps []) ≡ take n (by_number number steps []))
unfolding by_number
places-by steps far f zero n = f n
places-by steps far f (suc k) n = (0, take-nil {A = Step} (far 0) ∙ sym (take-nil {A = Step} n))

-- ---- the three calls: how many steps stand at the first k places

sync_at : Session → List ℕ → List ℕ → ℕ → ℕ
sync_at None card work k = 0
sync_at (Some s) card work k = synced_at s card work k

unmount_at : Session → List ℕ → List ℕ → ℕ → ℕ
unmount_at None card work k = 0
unmount_at (Some s) card work k = down_at s card work k

abbrev Image : (ℕ → List ℕ) → (ℕ → ℕ) → List Step → List ℕ → Type 0
Image f far steps card = ((k : ℕ) → f k ≡ apply_steps (take (far k) steps) card) × ((n : ℕ) → (k : ℕ) × (take (far k) steps ≡ take n steps))

mount-image : (card work : List ℕ) → Image (λ k. (mount_first card work k).image) (λ k. k) (by_number (mount card work).answer.number (mount_steps card) []) card
unfolding mount_first mount mount_done refused done
mount-image card work = (λ k. first-image (mount-num card work) _ _ (λ n. refl) (λ j a. refl) card k 0 (mount_steps card), λ n. (n, refl))

sync-image : (o : Session) (card work : List ℕ)
    → Image (λ k. (sync_first o card work k).image) (sync_at o card work) (by_number (sync o card work).answer.number (syncs_by o card work) []) card
unfolding sync_first sync sync_done syncs_by sync_at refused done
sync-image None card work = (λ k. (unfold by_number apply_steps in refl), λ n. (0, unfold by_number in sym (take-nil {A = Step} n)))
sync-image (Some s) card work = (
  λ k. first-image (both-num s card work (guard-num 8 _ ahead!)) _ _ (λ n. refl) (λ j a. refl) card (synced_at s card work k) _ (sync_steps s card work []),
  λ n. places-by (sync_steps s card work []) (synced_at s card work) (sync-places s card work) _ n,
)

unmount-image : (o : Session) (card work : List ℕ)
    → Image (λ k. (unmount_first o card work k).image) (unmount_at o card work) (by_number (unmount o card work).answer.number (unmounts_by o card work) []) card
unfolding unmount_first unmount unmount_done unmounts_by unmount_at refused done
unmount-image None card work = (λ k. (unfold by_number apply_steps in refl), λ n. (0, unfold by_number in sym (take-nil {A = Step} n)))
unmount-image (Some s) card work = (
  λ k. first-image (both-num s card work ahead!) _ _ (λ n. refl) (λ j a. refl) card (down_at s card work k) _ (unmount_steps s card work),
  λ n. places-by (unmount_steps s card work) (down_at s card work) (down-places s card work) _ n,
)

-- ---- proved

-- the card after some steps, by a card that is the same and by another name for what they leave
left_by : (p : Pending) (a b card : List ℕ) (l : List Step) → a ≡ b → card ≡ apply_steps l b → Left p (length a) (apply_steps l a) → Left p (length b) card
left_by p a b card l e f h = rw (f, ← e) h

stops : (h : Held) (w : World) (A : AsCalls h w) (c : Call) {f : ℕ → List ℕ} (far : ℕ → ℕ) {steps : List Step} → steps_of c (before c w) ≡ steps → Image f far steps h.card
    → Stops h w c f
stops h w A c {f} far q (e, g) =
    record {
      some = λ k. let z : f k ≡ apply_steps (take (far k) (steps_of c (before c w))) h.card = rw q (e k) in (far k, z, left_by _ w.card h.card (f k) _ A.card z (steps-possible w A.reached c (far k)));
      each = λ n. let (k, z) = g n in (k, rw q (e k ∙ ap (λ (l : List Step). apply_steps l h.card) z));
    }

mount-steps : (s : Session) (w : World) → steps_of mount_c (end_open s w) ≡ by_number (mount w.card w.work).answer.number (mount_steps w.card) []
unfolding steps_of end_open after_cut
mount-steps None w = refl
mount-steps (Some s) w = refl

module _ (h : Held) (w : World) (A : AsCalls h w) where
  of-mount : steps_of mount_c (before mount_c w) ≡ by_number (mount h.card h.work).answer.number (mount_steps h.card) []
  unfolding before
  of-mount = mount-steps w.session w ∙ rw (A.card, A.work)

  of-sync : steps_of sync_c (before sync_c w) ≡ by_number (sync (decoded h.bytes) h.card h.work).answer.number (syncs_by (decoded h.bytes) h.card h.work) []
  unfolding before steps_of
  of-sync = rw (A.session, A.card, A.work)

  of-unmount : steps_of unmount_c (before unmount_c w)
      ≡ by_number (unmount (decoded h.bytes) h.card h.work).answer.number (unmounts_by (decoded h.bytes) h.card h.work) []
  unfolding before steps_of
  of-unmount = rw (A.session, A.card, A.work)

pub host-histories : HostHistories
host-histories h w r =
    let A = as-calls r in
    record {
      calls = A;
      demand = kept-so h w A;
      of_mount = stops h w A mount_c (λ k. k) (of-mount h w A) (mount-image h.card h.work);
      of_sync = stops h w A sync_c (sync_at (decoded h.bytes) h.card h.work) (of-sync h w A) (sync-image (decoded h.bytes) h.card h.work);
      of_unmount = stops h w A unmount_c (unmount_at (decoded h.bytes) h.card h.work) (of-unmount h w A) (unmount-image (decoded h.bytes) h.card h.work);
    }
