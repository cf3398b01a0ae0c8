-- Demand 3 is not empty: between any two steps of any call the card as it is then is one of those that a cut may leave. Assumes nothing.
use Rattle.std.specs.Prelude.{Some, None}
use mathlib.Core.Path.{◌≡◌, refl}
use mathlib.Core.Bool.{Bool, true, false}
use mathlib.Core.List.{List, [], ◌∷◌, Memᴰ}
use Prim.Native.Nat.{ℕ, zero, suc, ◌+◌, ◌<◌}
use native.Mathlib.Omega.{arith}
use native.Mathlib.Decide.{ℕ_discrete}
use lib.ListN.{length, take}
use Rattle.sectors.specs.Sectors.{sec, set_sec, Step, settle, apply_steps}
use Rattle.sectors.proofs.SectorLaws.{apply_steps-length}
use Rattle.sectors.proofs.FlatLaws.{sec-in, set_here, set_there}
use Rattle.counts.specs.declared.Geo.{Geo}
use Rattle.counts.specs.Geometry.{g_n, geo_of, count_of}
use Rattle.counts.proofs.GeoLaws.{limits}
use Rattle.card.specs.Plan.{refused, done}
use Rattle.card.proofs.PlanLaws.{ahead!, guard-num}
use Rattle.session.specs.declared.Opened.{Opened}
use Rattle.session.specs.Session.{Session}
use Rattle.session.proofs.FitLaws.{Fit, fit-inv}
use Rattle.store.specs.Steps.{set_count, set_word, mount_steps, sync_steps, at_top, down_steps, unmount_steps_by, unmount_steps}
use Rattle.store.specs.Mount.{Ended, mount_done, mount}
use Rattle.store.specs.Sync.{sync_done, sync, unmount_done, unmount}
use Rattle.store.proofs.StepLaws.{up-length}
use Rattle.store.proofs.Plans.{both-inv, both-num, mount-few, mount-num, sync-live}
use Rattle.promises_answers.specs.PlainList.{Item}
use Rattle.promises_crash.specs.History.{Pending, written, newest, play, settled, Left, World, after_cut, by_number, end_open, before, syncs_by, unmounts_by, steps_of, pending_in, Call, make_c, mount_c, sync_c, unmount_c, put_c, remove_c, land_c, get_c, list_c, free_c, Reach}
use Rattle.promises_answers.proofs.Synced.{sync-length}
use Rattle.promises_crash.proofs.Play.{written-here, written-there}
use Rattle.promises_crash.proofs.State.{AtRest}
use Rattle.promises_crash.proofs.Inv.{OpenInv, InvOf, Inv, mk, inv-calm, inv-reads, inv_left}
use Rattle.promises_crash.proofs.Run.SyncEnd.{down-length}
use Rattle.promises_crash.proofs.Run.Steps.{to-live}
use Rattle.promises_crash.proofs.Run.StepAll.{own-geo, not_top}
use Rattle.promises_crash.proofs.Within.{steps-plan}
use Rattle.promises_crash.proofs.Run.CardRun.{Can, CanAll, top-can, can-nil, can_write, can-settle, sync-can}
use Rattle.promises_crash.proofs.Demand.{inv}

-- the card after each number of steps may be left by a cut there
abbrev Lefts : List ℕ → Pending → List Step → Type 0
Lefts card p steps = (n : ℕ) → Left (play (take n steps) p) (length card) (apply_steps (take n steps) card)

lefts : (S : ℕ) (card : List ℕ) (p : Pending) (steps : List Step) → CanAll S steps p card → Lefts card p steps
lefts S card p steps C n = record { sized = apply_steps-length (take n steps) card; held = λ j l. (C n).held j }

none : (card : List ℕ) (p : Pending) → Left p (length card) card → Lefts card p []
unfolding play apply_steps
none card p h zero = h
none card p h (suc n) = h

-- ---- mount

mount-can : (card : List ℕ) (p : Pending) (m : List Item) → AtRest (geo_of (sec card)) card p m → count_of (sec card) < g_n (geo_of (sec card))
    → CanAll (geo_of (sec card)).s (mount_steps card) p card
unfolding mount_steps
mount-can card p m K few =
    let g = geo_of (sec card) in
    let pos : 0 < (geo_of (sec card)).s = omega (arith, (limits (geo_of (sec card)) K.calm.is.ok).s_low, (limits (geo_of (sec card)) K.calm.is.ok).past, (limits (geo_of (sec card)) K.calm.is.ok).dir) in
    let wd = sec-in (set_count (count_of (sec card) + 1) card) (geo_of (sec card)).s 0 (up-length card K.calm.is.ok K.calm.is.sized few) pos in
    can_write (geo_of (sec card)).s 0 _ (settle ∷ []) p card pos wd (top-can (geo_of (sec card)).s p card K.calm.is.sized K.top)
    (λ C. can-settle (geo_of (sec card)).s [] _ _ C
    (can-nil (geo_of (sec card)).s _ _ (record { sized = C.sized; held = λ j. here wd pos j (ℕ_discrete j 0) })))
  where
    x : List ℕ
    x = sec (set_count (count_of (sec card) + 1) card) 0

    here : length x ≡ 512 → 0 < (geo_of (sec card)).s → (j : ℕ) → Dec (j ≡ 0) → Memᴰ (sec (set_sec card 0 x) j) (newest (written 0 x p j))
    here wd pos j (yes e) =
        rw (e, written-here 0 x p) (unfold newest in Memᴰ.head (set_here (geo_of (sec card)).s card x 0 K.calm.is.sized pos wd))
    here wd pos j (no o) =
        rw (written-there 0 x p j o, K.top j) (Memᴰ.head (set_there (geo_of (sec card)).s card x 0 K.calm.is.sized pos wd j o))

mount-lefts : (g : Geo) (card work : List ℕ) (p : Pending) (m : List Item) → AtRest g card p m → Lefts card p (steps_of mount_c (mk card work None p m))
unfolding steps_of mount refused
mount-lefts g card work p m K =
    steps-plan (λ (r : Ended). r.answer.number) (Lefts card p) _ _ (mount_steps card) (λ k. refl) (mount-num card work)
    (none card p (inv_left (mk card work None p m) (g, K)))
    (λ j a e. finish (mount-few card work j a e))
  where
    finish : count_of (sec card) < g_n (geo_of (sec card)) → Lefts card p (by_number (mount_done card).answer.number (mount_steps card) [])
    finish few = unfold mount_done done by_number in lefts _ card p (mount_steps card) (mount-can card p m (own-geo g card p m K) few)

mount-left : (s : Session) (card work : List ℕ) (p : Pending) (m : List Item) → InvOf s (mk card work s p m)
    → Lefts card (before mount_c (mk card work s p m)).pending (steps_of mount_c (before mount_c (mk card work s p m)))
unfolding before end_open
mount-left None card work p m h = mount-lefts h.0 card work p m h.1
mount-left (Some s) card work p m h = over (inv-calm card work m (inv-reads (mk card work (Some s) p m) h card (inv_left (mk card work (Some s) p m) h)))
  where
    over : Inv (after_cut card work) → Lefts card (after_cut card work).pending (steps_of mount_c (after_cut card work))
    over k = unfold after_cut in mount-lefts k.0 card work (settled card) _ k.1

-- ---- sync and unmount

now-can : (s : Opened) (work : List ℕ) (F : Fit s work) → s.worn ≡ false → Can s.geo.s (settled (set_word s.c.0 s.t.0 work)) (set_word s.c.0 s.t.0 work)
unfolding settled newest
now-can s work F live = top-can s.geo.s _ _ (sync-length s work F live) (λ j. refl)

sync-left : (s : Session) (card work : List ℕ) (p : Pending) (m : List Item) → InvOf s (mk card work s p m) → Lefts card p (steps_of sync_c (mk card work s p m))
unfolding steps_of sync refused syncs_by by_number
sync-left None card work p m h = none card p (inv_left (mk card work None p m) h)
sync-left (Some s) card work p m h =
    steps-plan (λ (r : Ended). r.answer.number) (Lefts card p) _ _ (sync_steps s card work []) (λ k. refl) (both-num s card work (guard-num 8 _ ahead!))
    (none card p (inv_left (mk card work (Some s) p m) h)) (λ j a e. let (F, live) = sync-live s card work e in finish F live)
  where
    finish : Fit s work → s.worn ≡ false → Lefts card p (by_number (sync_done s card work).answer.number (sync_steps s card work []) [])
    finish F live =
        unfold sync_done done by_number in
        lefts s.geo.s card p (sync_steps s card work []) (sync-can s card work p m (to-live s (mk card work (Some s) p m) live h) F live [] (can-nil s.geo.s _ _ (now-can s work F live)))

unmount-can : (b : Bool) (s : Opened) (card work : List ℕ) (p : Pending) (m : List Item) → s.worn ≡ b → OpenInv b s (mk card work (Some s) p m) → Fit s work
    → Left p (length card) card → Lefts card p (unmount_steps_by b s card work)
unfolding unmount_steps_by
unmount-can true s card work p m e W F l = none card p l
unmount-can false s card work p m e V₀ F l = lefts s.geo.s card p _ (sync-can s card work p m V₀ F e _ (go (at_top s) refl))
  where
    go : (b : Bool) → at_top s ≡ b
        → CanAll s.geo.s (down_steps b s (set_word s.c.0 s.t.0 work)) (settled (set_word s.c.0 s.t.0 work)) (set_word s.c.0 s.t.0 work)
    go true q = unfold down_steps in can-nil s.geo.s _ _ (now-can s work F e)
    go false q =
        unfold down_steps in
        can_write s.geo.s 0 _ [] _ _ pos (sec-in _ s.geo.s 0 (down-length s card work p m V₀ F e (not_top s F.tx q)) pos) (now-can s work F e) (λ C. can-nil s.geo.s _ _ C)
      where
        pos : 0 < s.geo.s
        pos = omega (arith, (limits s.geo F.shape).s_low, (limits s.geo F.shape).past, (limits s.geo F.shape).dir)

unmount-left : (s : Session) (card work : List ℕ) (p : Pending) (m : List Item) → InvOf s (mk card work s p m) → Lefts card p (steps_of unmount_c (mk card work s p m))
unfolding steps_of unmount refused unmounts_by by_number
unmount-left None card work p m h = none card p (inv_left (mk card work None p m) h)
unmount-left (Some s) card work p m h =
    steps-plan (λ (r : Ended). r.answer.number) (Lefts card p) _ _ (unmount_steps s card work) (λ k. refl) (both-num s card work ahead!)
    (none card p (inv_left (mk card work (Some s) p m) h)) (λ j a e. finish (fit-inv s work (both-inv s card work _ e).0))
  where
    finish : Fit s work → Lefts card p (by_number (unmount_done s card work).answer.number (unmount_steps s card work) [])
    finish F = unfold unmount_done unmount_steps done by_number in unmount-can s.worn s card work p m refl h F (inv_left (mk card work (Some s) p m) h)

-- ---- every call

lefts-of : (w : World) → Inv w → (c : Call) → Lefts w.card (before c w).pending (steps_of c (before c w))
lefts-of w h (make_c g) = unfold before steps_of in none w.card w.pending (inv_left w h)
lefts-of w h mount_c = mount-left w.session w.card w.work w.pending w.last h
lefts-of w h sync_c = unfold before in sync-left w.session w.card w.work w.pending w.last h
lefts-of w h unmount_c = unfold before in unmount-left w.session w.card w.work w.pending w.last h
lefts-of w h (put_c n d goal) = unfold before steps_of in none w.card w.pending (inv_left w h)
lefts-of w h (remove_c n) = unfold before steps_of in none w.card w.pending (inv_left w h)
lefts-of w h (land_c i) = unfold before steps_of in none w.card w.pending (inv_left w h)
lefts-of w h (get_c n out) = unfold before steps_of in none w.card w.pending (inv_left w h)
lefts-of w h (list_c lines) = unfold before steps_of in none w.card w.pending (inv_left w h)
lefts-of w h free_c = unfold before steps_of in none w.card w.pending (inv_left w h)

-- the card after the first n steps of a call is one of those that a cut there may leave
pub steps-possible : (w : World) → Reach w → (c : Call) (n : ℕ) → Left (pending_in c n w) (length w.card) (apply_steps (take n (steps_of c (before c w))) w.card)
unfolding pending_in
steps-possible w r c n = lefts-of w (inv r) c n
