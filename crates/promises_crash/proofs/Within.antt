-- Every cut inside a call reads as the latest moment or, in a sync or unmount, as what the session showed. Assumes nothing.
use Rattle.std.specs.Prelude.{Some, None}
use mathlib.Core.Path.{◌≡◌, refl}
use mathlib.Core.Bool.{Bool, true, false}
use mathlib.Core.List.{List, []}
use mathlib.Core.Logic.{◌⊎◌, inl}
use Prim.Native.Nat.{ℕ, suc, ◌<◌}
use lib.ListN.{length, take}
use Rattle.sectors.specs.declared.Sector.{Sector}
use Rattle.sectors.specs.Sectors.{sec, Step}
use Rattle.counts.specs.declared.Geo.{Geo}
use Rattle.counts.specs.Geometry.{g_n, geo_of, count_of}
use Rattle.card.specs.Plan.{Plan, do_it, ended, refused, done}
use Rattle.card.proofs.PlanLaws.{Num, ahead!, guard-num, passing}
use Rattle.session.specs.declared.Opened.{Opened}
use Rattle.session.specs.Session.{Session}
use Rattle.session.proofs.FitLaws.{Fit, fit-inv}
use Rattle.store.specs.Steps.{set_word, mount_steps, sync_steps, at_top, down_steps, unmount_steps_by, unmount_steps}
use Rattle.store.specs.Mount.{Ended, mount_done, mount}
use Rattle.store.specs.Sync.{sync_done, sync, unmount_done, unmount}
use Rattle.store.proofs.Plans.{both-inv, both-num, mount-few, mount-num, sync-live}
use Rattle.promises_answers.specs.PlainList.{Item, shown_in}
use Rattle.promises_crash.specs.History.{Pending, play, settled, Left, World, after_cut, by_number, end_open, before, syncs_by, unmounts_by, steps_of, pending_in, Call, make_c, mount_c, sync_c, unmount_c, put_c, remove_c, land_c, get_c, list_c, free_c, Reads, is_sync}
use Rattle.promises_crash.proofs.Play.{Every, every-nil, every-write}
use Rattle.promises_crash.proofs.State.{reads-good, calm-reads, AtRest, good-rests}
use Rattle.promises_crash.proofs.Inv.{OpenInv, InvOf, Inv, mk, inv-reads, inv_left}
use Rattle.promises_crash.proofs.Run.SyncRun.{Either, sync-every, new-reads}
use Rattle.promises_crash.proofs.Run.SyncEnd.{down-reads}
use Rattle.promises_crash.proofs.Run.MountRun.{mount-every}
use Rattle.promises_crash.proofs.Run.Steps.{to-live}
use Rattle.promises_crash.proofs.Run.StepAll.{own-geo, not_top}

-- a call that is refused takes no step
pub steps-plan : {A : Type 0} (number : A → ℕ) (Q : List Step → Type 0) (stop : ℕ → A) (on : ℕ → Sector → A) (steps : List Step) {pl : Plan}
    → ((k : ℕ) → number (stop k) ≡ k) → Num pl → Q [] → ((j : ℕ) (a : Sector) → pl ≡ do_it j a → Q (by_number (number (on j a)) steps []))
    → Q (by_number (number (ended pl stop on)) steps [])
unfolding by_number
steps-plan number Q stop on steps e q h f = passing (λ r. Q (by_number (number r) steps [])) stop on q (λ k. rw (e (suc k)) h) f

-- ---- mount

abbrev Old : List ℕ → List Item → Pending → Type 0
Old card m p = (k : List ℕ) → Left p (length card) k → Reads k m

mount-cuts : (g : Geo) (card work : List ℕ) (p : Pending) (m : List Item) → AtRest g card p m → Every (Old card m) (steps_of mount_c (mk card work None p m)) p
unfolding steps_of mount refused
mount-cuts g card work p m K₀ =
    steps-plan (λ (r : Ended). r.answer.number) (λ (x : List Step). Every (Old card m) x p) _ _ (mount_steps card) (λ k. refl) (mount-num card work)
    (every-nil (Old card m) p (λ k c. calm-reads g card p m K₀.calm k (rw K₀.calm.is.sized at c)))
    (λ j a e. finish (mount-few card work j a e))
  where
    K : AtRest (geo_of (sec card)) card p m
    K = own-geo g card p m K₀

    finish : count_of (sec card) < g_n (geo_of (sec card)) → Every (Old card m) (by_number (mount_done card).answer.number (mount_steps card) []) p
    finish few n k c = unfold mount_done done by_number in mount-every card p m K few n k (rw K.calm.is.sized at c)

within-mount : (s : Session) (card work : List ℕ) (p : Pending) (m : List Item) → InvOf s (mk card work s p m) → (n : ℕ) (k : List ℕ)
    → Left (pending_in mount_c n (mk card work s p m)) (length card) k → Reads k m
unfolding pending_in before end_open
within-mount None card work p m h n k c = mount-cuts h.0 card work p m h.1 n k c
within-mount (Some s) card work p m h n k c =
    over (inv-reads (mk card work (Some s) p m) h card (inv_left (mk card work (Some s) p m) h)) c
  where
    over : Reads card m → Left (play (take n (steps_of mount_c (after_cut card work))) (after_cut card work).pending) (length card) k → Reads k m
    over r c =
        mount-cuts (geo_of (sec card)) card work (settled card) m (good-rests (geo_of (sec card)) card m (reads-good card m r)) n k (unfold after_cut steps_of in c)

-- ---- sync and unmount

abbrev Mid : Call → Session → List ℕ → List ℕ → List Item → Pending → Type 0
Mid c s card work m p = (k : List ℕ) → Left p (length card) k → Reads k m ⊎ ((is_sync c ≡ true) × Reads k (shown_in s work))

mid-old : (c : Call) (s : Session) (card work : List ℕ) (p : Pending) (m : List Item) → InvOf s (mk card work s p m) → Mid c s card work m p
mid-old c s card work p m h k x = inl (inv-reads (mk card work s p m) h k x)

within-sync : (s : Session) (card work : List ℕ) (p : Pending) (m : List Item) → InvOf s (mk card work s p m) → Every (Mid sync_c s card work m) (steps_of sync_c (mk card work s p m)) p
unfolding steps_of sync refused syncs_by by_number is_sync
within-sync None card work p m h = every-nil (Mid sync_c None card work m) p (mid-old sync_c None card work p m h)
within-sync (Some s) card work p m h =
    steps-plan (λ (r : Ended). r.answer.number) (λ (x : List Step). Every (Mid sync_c (Some s) card work m) x p) _ _ (sync_steps s card work []) (λ k. refl)
    (both-num s card work (guard-num 8 _ ahead!)) (every-nil (Mid sync_c (Some s) card work m) p (mid-old sync_c (Some s) card work p m h))
    (λ j a e. let (F, live) = sync-live s card work e in finish F live)
  where
    finish : Fit s work → s.worn ≡ false → Every (Mid sync_c (Some s) card work m) (by_number (sync_done s card work).answer.number (sync_steps s card work []) []) p
    finish F live n k x =
        let V₀ = to-live s (mk card work (Some s) p m) live h in
        unfold sync_done done by_number is_sync in
        sync-every s card work p m V₀ F live [] (every-nil (Either s work m) _ (new-reads s card work p m V₀ F live)) n k (rw V₀.sized at x)

unmount-cuts : (b : Bool) (s : Opened) (card work : List ℕ) (p : Pending) (m : List Item) → s.worn ≡ b → OpenInv b s (mk card work (Some s) p m) → Fit s work
    → Mid unmount_c (Some s) card work m p → Every (Mid unmount_c (Some s) card work m) (unmount_steps_by b s card work) p
unfolding unmount_steps_by is_sync
unmount-cuts true s card work p m e W F old = every-nil (Mid unmount_c (Some s) card work m) p old
unmount-cuts false s card work p m e V₀ F old = λ n k x. go (at_top s) refl n k (rw V₀.sized at x)
  where
    go : (b : Bool) → at_top s ≡ b → Every (Either s work m) (sync_steps s card work (down_steps b s (set_word s.c.0 s.t.0 work))) p
    go true q = unfold down_steps in sync-every s card work p m V₀ F e [] (every-nil (Either s work m) _ (new-reads s card work p m V₀ F e))
    go false q =
        unfold down_steps in
        sync-every s card work p m V₀ F e _
        (every-write (Either s work m) 0 _ [] _ (new-reads s card work p m V₀ F e) (every-nil (Either s work m) _ (down-reads s card work p m V₀ F e (not_top s F.tx q))))

within-unmount : (s : Session) (card work : List ℕ) (p : Pending) (m : List Item) → InvOf s (mk card work s p m)
    → Every (Mid unmount_c s card work m) (steps_of unmount_c (mk card work s p m)) p
unfolding steps_of unmount refused unmounts_by by_number
within-unmount None card work p m h = every-nil (Mid unmount_c None card work m) p (mid-old unmount_c None card work p m h)
within-unmount (Some s) card work p m h =
    steps-plan (λ (r : Ended). r.answer.number) (λ (x : List Step). Every (Mid unmount_c (Some s) card work m) x p) _ _ (unmount_steps s card work) (λ k. refl)
    (both-num s card work ahead!) (every-nil (Mid unmount_c (Some s) card work m) p (mid-old unmount_c (Some s) card work p m h))
    (λ j a e. finish (fit-inv s work (both-inv s card work _ e).0))
  where
    finish : Fit s work → Every (Mid unmount_c (Some s) card work m) (by_number (unmount_done s card work).answer.number (unmount_steps s card work) []) p
    finish F = unfold unmount_done unmount_steps done by_number in unmount-cuts s.worn s card work p m refl h F (mid-old unmount_c (Some s) card work p m h)

-- ---- every call

-- a call that takes no steps is cut before or after
none : (w : World) → Inv w → Every (Old w.card w.last) [] w.pending
none w h = every-nil (Old w.card w.last) w.pending (inv-reads w h)

pub inv-within : (w : World) → Inv w → (c : Call) (n : ℕ) (k : List ℕ) → Left (pending_in c n w) (length w.card) k
    → Reads k w.last ⊎ ((is_sync c ≡ true) × Reads k (shown_in w.session w.work))
inv-within w h (make_c g) n k x = inl (none w h n k (unfold pending_in before steps_of in x))
inv-within w h mount_c n k x = inl (within-mount w.session w.card w.work w.pending w.last h n k x)
inv-within w h sync_c n k x = within-sync w.session w.card w.work w.pending w.last h n k (unfold pending_in before in x)
inv-within w h unmount_c n k x = within-unmount w.session w.card w.work w.pending w.last h n k (unfold pending_in before in x)
inv-within w h (put_c a d goal) n k x = inl (none w h n k (unfold pending_in before steps_of in x))
inv-within w h (remove_c a) n k x = inl (none w h n k (unfold pending_in before steps_of in x))
inv-within w h (land_c i) n k x = inl (none w h n k (unfold pending_in before steps_of in x))
inv-within w h (get_c a out) n k x = inl (none w h n k (unfold pending_in before steps_of in x))
inv-within w h (list_c lines) n k x = inl (none w h n k (unfold pending_in before steps_of in x))
inv-within w h free_c n k x = inl (none w h n k (unfold pending_in before steps_of in x))
