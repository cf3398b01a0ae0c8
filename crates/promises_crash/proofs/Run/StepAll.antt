-- Mount, sync and unmount keep the invariant, and so every call does. Assumes nothing.
use Rattle.std.specs.Prelude.{Some, None}
use mathlib.Core.Path.{◌≡◌, refl, sym}
use mathlib.Core.Bool.{Bool, true, false}
use mathlib.Core.List.{List, []}
use Prim.Native.Nat.{ℕ, ◌+◌, ◌≤◌, ◌<◌}
use native.Mathlib.Omega.{arith}
use borrow.Author.Tests.{eqb-false}
use Rattle.sectors.specs.Sectors.{sec, apply_steps}
use Rattle.counts.specs.declared.Geo.{Geo}
use Rattle.counts.specs.Geometry.{g_n, geo_of, count_of, table_of}
use Rattle.counts.specs.Stamps.{max_tx}
use Rattle.directory.specs.Directory.{entries_of}
use Rattle.card.specs.Plan.{refused, done}
use Rattle.card.proofs.PlanLaws.{ahead!, guard-num}
use Rattle.card.specs.Files.{files_of}
use Rattle.card.specs.Reading.{files_in, files_shown}
use Rattle.session.specs.declared.Opened.{Opened}
use Rattle.session.specs.Session.{Session}
use Rattle.session.specs.Views.{present_files, session_files}
use Rattle.session.proofs.FitLaws.{Fit, fit-inv, fit-table, present-worn}
use Rattle.store.specs.Steps.{set_count, set_word, mount_steps, sync_steps, at_top, down_steps, unmount_steps_by, unmount_steps, sync_work}
use Rattle.store.specs.Mount.{Ended, opened_from, mount_done, mount}
use Rattle.store.specs.Sync.{grown, sync_done, sync, unmount_done, unmount}
use Rattle.store.proofs.Plans.{both-inv, both-num, mount-few, mount-num, sync-live}
use Rattle.promises_answers.specs.PlainList.{Item, items, shown_by, shown_in}
use Rattle.promises_crash.specs.History.{Pending, play, settled, World, after_cut, by_number, end_open, before, syncs_by, unmounts_by, steps_of, stepped, Call, make_c, mount_c, sync_c, unmount_c, put_c, remove_c, land_c, get_c, list_c, free_c, after}
use Rattle.promises_crash.proofs.State.{AtRest, Live}
use Rattle.promises_crash.proofs.Inv.{Worn, OpenInv, InvOf, Inv, mk, inv-calm, inv-reads, inv_left}
use Rattle.promises_crash.proofs.Run.SyncRun.{sync-play, sync-card, new-rests}
use Rattle.promises_crash.proofs.Run.SyncEnd.{next-live, next-worn, down-rests, down-card}
use Rattle.promises_crash.proofs.Run.MountRun.{mount-lands, mount-card, mount-live}
use Rattle.promises_crash.proofs.Run.Steps.{by-plan, to-live, step-make, step-put, step-remove, step-land}

-- ---- mount: over an open session first a cut at which the card stays as it is

-- the geometry of a card at rest is its own
pub own-geo : (g : Geo) (card : List ℕ) (p : Pending) (m : List Item) → AtRest g card p m → AtRest (geo_of (sec card)) card p m
own-geo g card p m K = rw K.calm.is.geo K

mount-rests : (g : Geo) (card work : List ℕ) (p : Pending) (m : List Item) → AtRest g card p m
    → Inv (stepped (mk card work None p m) (mount card work) (steps_of mount_c (mk card work None p m)) (shown_by card))
unfolding stepped steps_of mount refused
mount-rests g card work p m K₀ =
    by-plan (λ (r : Ended). r.answer.number) Inv (mk card work None p m) _ _
    (λ r. mk r.card r.work r.session (play (by_number r.answer.number (mount_steps card) []) p) (shown_by card)) (λ k. refl) (mount-num card work) (g, K₀)
    (λ j a e. finish (mount-few card work j a e))
  where
    K : AtRest (geo_of (sec card)) card p m
    K = own-geo g card p m K₀

    same : m ≡ shown_by card
    same = unfold shown_by files_shown in sym K.calm.is.shows

    finish : count_of (sec card) < g_n (geo_of (sec card))
        → Inv (by_number (mount_done card).answer.number
        (mk (mount_done card).card (mount_done card).work (mount_done card).session (play (by_number (mount_done card).answer.number (mount_steps card) []) p) (shown_by card))
        (mk card work None p m))
    finish few =
        unfold mount_done done by_number opened_from in
        (rw (mount-card card p m K few, mount-lands card p m K few, sym same) (live few))
      where
        live : count_of (sec card) < g_n (geo_of (sec card))
            → Live (opened_from card) (set_count (count_of (sec card) + 1) card) (set_count (count_of (sec card) + 1) card) (settled (set_count (count_of (sec card) + 1) card)) m
        live few = mount-live card p m K few

step-mount : (s : Session) (card work : List ℕ) (p : Pending) (m : List Item) → InvOf s (mk card work s p m) → Inv (after mount_c (mk card work s p m))
unfolding after before end_open
step-mount None card work p m h = mount-rests h.0 card work p m h.1
step-mount (Some s) card work p m h =
    over (inv-calm card work m (inv-reads (mk card work (Some s) p m) h card (inv_left (mk card work (Some s) p m) h)))
  where
    over : Inv (after_cut card work) → Inv (stepped (after_cut card work) (mount (after_cut card work).card (after_cut card work).work) (steps_of mount_c (after_cut card work)) (shown_by (after_cut card work).card))
    over k = unfold after_cut in mount-rests k.0 card work (settled card) (shown_by card) k.1

-- ---- sync

pub not_top : (s : Opened) → s.t.0 ≤ max_tx → at_top s ≡ false → s.t.0 < max_tx
unfolding at_top
not_top s h e = let q = eqb-false s.t.0 max_tx e in omega arith

sync-inv : (s : Opened) (card work : List ℕ) (p : Pending) (m : List Item) → Live s card work p m → Fit s work → s.worn ≡ false
    → InvOf (Some (grown (at_top s) s))
    (mk (apply_steps (sync_steps s card work []) card) (set_word s.c.0 s.t.0 work) (Some (grown (at_top s) s)) (play (sync_steps s card work []) p) (shown_in (Some s) work))
sync-inv s card work p m V₀ F live = rw (sync-card s card work p m V₀ F live [], sync-play s card work p m V₀ F live []) (unfold apply_steps play in go (at_top s) refl)
  where
    go : (b : Bool) → at_top s ≡ b
        → InvOf (Some (grown b s)) (mk (set_word s.c.0 s.t.0 work) (set_word s.c.0 s.t.0 work) (Some (grown b s)) (settled (set_word s.c.0 s.t.0 work)) (shown_in (Some s) work))
    go true e = worn (next-worn s card work p m V₀ F live)
      where
        worn : Worn (grown true s).geo (set_word s.c.0 s.t.0 work) (set_word s.c.0 s.t.0 work) (settled (set_word s.c.0 s.t.0 work)) (shown_in (Some s) work)
            → OpenInv (grown true s).worn (grown true s)
            (mk (set_word s.c.0 s.t.0 work) (set_word s.c.0 s.t.0 work) (Some (grown true s)) (settled (set_word s.c.0 s.t.0 work)) (shown_in (Some s) work))
        worn h = unfold grown in h
    go false e = again (next-live s card work p m V₀ F live (not_top s F.tx e))
      where
        again : Live (grown false s) (set_word s.c.0 s.t.0 work) (set_word s.c.0 s.t.0 work) (settled (set_word s.c.0 s.t.0 work)) (shown_in (Some s) work)
            → OpenInv (grown false s).worn (grown false s)
            (mk (set_word s.c.0 s.t.0 work) (set_word s.c.0 s.t.0 work) (Some (grown false s)) (settled (set_word s.c.0 s.t.0 work)) (shown_in (Some s) work))
        again h = unfold grown in h

step-sync : (s : Session) (card work : List ℕ) (p : Pending) (m : List Item) → InvOf s (mk card work s p m) → Inv (after sync_c (mk card work s p m))
unfolding after stepped steps_of syncs_by sync refused by_number
step-sync None card work p m h = h
step-sync (Some s) card work p m h =
    by-plan (λ (r : Ended). r.answer.number) Inv (mk card work (Some s) p m) _ _
    (λ r. mk r.card r.work r.session (play (by_number r.answer.number (sync_steps s card work []) []) p) (shown_in (Some s) work)) (λ k. refl)
    (both-num s card work (guard-num 8 _ ahead!)) h
    (λ j a e. let (F, live) = sync-live s card work e in finish F live)
  where
    finish : Fit s work → s.worn ≡ false
        → Inv (by_number (sync_done s card work).answer.number
        (mk (sync_done s card work).card (sync_done s card work).work (sync_done s card work).session
        (play (by_number (sync_done s card work).answer.number (sync_steps s card work []) []) p) (shown_in (Some s) work)) (mk card work (Some s) p m))
    finish F live = unfold sync_done sync_work done by_number in sync-inv s card work p m (to-live s (mk card work (Some s) p m) live h) F live

-- ---- unmount

-- a worn session shows what its card shows
worn-shows : (s : Opened) (card work : List ℕ) (p : Pending) (m : List Item) → s.worn ≡ true → Fit s work → Worn s.geo card work p m → shown_in (Some s) work ≡ m
unfolding shown_in session_files present_files
worn-shows s card work p m e F W = rw (present-worn s (sec work) e (fit-table s.geo work F.shape F.sized), W.same) (open-files W.rest.calm.is.shows)
  where
    open-files : items card (files_in s.geo (sec card)) ≡ m → items card (files_of (table_of s.geo (sec card)) (entries_of s.geo (sec card))) ≡ m
    open-files h = unfold files_in in h

unmount-rests : (b : Bool) (s : Opened) (card work : List ℕ) (p : Pending) (m : List Item) → s.worn ≡ b → OpenInv b s (mk card work (Some s) p m) → Fit s work
    → AtRest s.geo (apply_steps (unmount_steps_by b s card work) card) (play (unmount_steps_by b s card work) p) (shown_in (Some s) work)
unfolding unmount_steps_by
unmount-rests true s card work p m e W F = unfold apply_steps play in rw (worn-shows s card work p m e F W) W.rest
unmount-rests false s card work p m e V₀ F = go (at_top s) refl
  where
    go : (b : Bool) → at_top s ≡ b
        → AtRest s.geo (apply_steps (sync_steps s card work (down_steps b s (set_word s.c.0 s.t.0 work))) card) (play (sync_steps s card work (down_steps b s (set_word s.c.0 s.t.0 work))) p) (shown_in (Some s) work)
    go true q = unfold down_steps in (rw (sync-card s card work p m V₀ F e [], sync-play s card work p m V₀ F e []) (unfold apply_steps play in new-rests s card work p m V₀ F e))
    go false q =
        unfold down_steps in
        (rw (sync-card s card work p m V₀ F e _, sync-play s card work p m V₀ F e _, down-card s card work p m V₀ F e (not_top s F.tx q))
        (unfold play in down-rests s card work p m V₀ F e (not_top s F.tx q)))

step-unmount : (s : Session) (card work : List ℕ) (p : Pending) (m : List Item) → InvOf s (mk card work s p m) → Inv (after unmount_c (mk card work s p m))
unfolding after stepped steps_of unmounts_by unmount refused by_number
step-unmount None card work p m h = h
step-unmount (Some s) card work p m h =
    by-plan (λ (r : Ended). r.answer.number) Inv (mk card work (Some s) p m) _ _
    (λ r. mk r.card r.work r.session (play (by_number r.answer.number (unmount_steps s card work) []) p) (shown_in (Some s) work)) (λ k. refl)
    (both-num s card work ahead!) h
    (λ j a e. finish (fit-inv s work (both-inv s card work _ e).0))
  where
    finish : Fit s work
        → Inv (by_number (unmount_done s card work).answer.number
        (mk (unmount_done s card work).card (unmount_done s card work).work (unmount_done s card work).session
        (play (by_number (unmount_done s card work).answer.number (unmount_steps s card work) []) p) (shown_in (Some s) work)) (mk card work (Some s) p m))
    finish F = unfold unmount_done unmount_steps done by_number in (s.geo, unmount-rests s.worn s card work p m refl h F)

pub inv-step : (w : World) → Inv w → (c : Call) → Inv (after c w)
inv-step w h (make_c g) = step-make g w h
inv-step w h mount_c = step-mount w.session w.card w.work w.pending w.last h
inv-step w h sync_c = step-sync w.session w.card w.work w.pending w.last h
inv-step w h unmount_c = step-unmount w.session w.card w.work w.pending w.last h
inv-step w h (put_c n d goal) = step-put n d goal w.session w.card w.work w.pending w.last h
inv-step w h (remove_c n) = step-remove n w.session w.card w.work w.pending w.last h
inv-step w h (land_c i) = step-land i w.session w.card w.work w.pending w.last h
inv-step w h (get_c n out) = unfold after in h
inv-step w h (list_c lines) = unfold after in h
inv-step w h free_c = unfold after in h
