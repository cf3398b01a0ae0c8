-- In every history an open session fits its working image, so no call of a history answers 2. Assumes nothing.
use Rattle.std.specs.Prelude.{Some, None}
use mathlib.Core.Path.{◌≡◌, refl}
use mathlib.Core.Bool.{Bool, true, false}
use mathlib.Core.List.{List, []}
use Prim.Native.Nat.{ℕ, ◌<◌}
use native.Mathlib.Omega.{arith}
use borrow.Author.Tests.{eqb-true}
use Rattle.sectors.specs.Sectors.{apply_steps}
use Rattle.counts.specs.declared.Geo.{Geo}
use Rattle.counts.specs.Stamps.{max_tx}
use Rattle.card.specs.Plan.{refused, done, Changed}
use Rattle.card.proofs.PlanLaws.{ahead!, guard-num}
use Rattle.card.specs.Make.{make}
use Rattle.session.specs.declared.Opened.{Opened}
use Rattle.session.specs.Session.{Session}
use Rattle.session.specs.Fits.{fits}
use Rattle.session.proofs.FitLaws.{Fit, fit-intro}
use Rattle.store.specs.Steps.{mount_steps, sync_steps, unmount_steps, sync_work, at_top}
use Rattle.store.specs.Mount.{Ended, opened_from, mount_done, mount}
use Rattle.store.specs.Edit.{put_at, remove}
use Rattle.store.specs.Sync.{land, grown, sync_done, sync, unmount_done, unmount}
use Rattle.store.specs.Inner.{FitOf, FitOn}
use Rattle.store.proofs.Fitting.{on_of}
use Rattle.store.proofs.Plans.{put-num, remove-num, both-num, make-num, mount-few, mount-good, mount-num, sync-live}
use Rattle.promises_answers.specs.PlainList.{Item, shown_by, shown_in}
use Rattle.promises_crash.specs.History.{Pending, World, Call, make_c, mount_c, sync_c, unmount_c, put_c, remove_c, land_c, get_c, list_c, free_c, play, all_written, settled, after_cut, by_number, end_open, before, steps_of, syncs_by, unmounts_by, edited, stepped, after, Reach, fresh, call, cut, cut_in}
use Rattle.promises_crash.proofs.Inv.{mk}
use Rattle.promises_crash.proofs.Run.Steps.{by-plan}
use Rattle.promises_crash.proofs.Run.StepAll.{not_top}
use Rattle.promises_answers.proofs.Fit.FitCalm.{rest-fits, worn-fits}
use Rattle.promises_answers.proofs.Fit.FitAll.{put-fits, remove-fits, sync-rest}
use Rattle.promises_crash.proofs.Fit.FitMount.{mount-fits}

abbrev pub FitW : World → Type 0
FitW w = FitOf w.session w.work

pub cut-closed : (card work : List ℕ) → FitW (after_cut card work)
unfolding after_cut
cut-closed card work = tt

-- ---- the calls

step-make : (g : Geo) (w : World) → FitW w → FitW (after (make_c g) w)
unfolding after make refused done by_number
step-make g w h =
    by-plan (λ (r : Changed). r.answer.number) FitW w _ _ (λ r. after_cut r.image w.work) (λ k. refl) (make-num g w.card) h (λ j a e. cut-closed _ w.work)

step-put : (n d : List ℕ) (goal : ℕ) (s : Session) (card work : List ℕ) (p : Pending) (m : List Item) → FitOf s work → FitW (after (put_c n d goal) (mk card work s p m))
unfolding after edited put_at refused done by_number
step-put n d goal None card work p m h = h
step-put n d goal (Some s) card work p m h =
    by-plan (λ (r : Changed). r.answer.number) FitW (mk card work (Some s) p m) _ _ (λ r. mk card r.image (Some s) (all_written r.image p) m) (λ k. refl) (put-num s work n d goal) h
    (λ j a e. fit-intro s _ (put-fits s work n d goal j a e))

step-remove : (n : List ℕ) (s : Session) (card work : List ℕ) (p : Pending) (m : List Item) → FitOf s work → FitW (after (remove_c n) (mk card work s p m))
unfolding after edited remove refused done by_number
step-remove n None card work p m h = h
step-remove n (Some s) card work p m h =
    by-plan (λ (r : Changed). r.answer.number) FitW (mk card work (Some s) p m) _ _ (λ r. mk card r.image (Some s) (all_written r.image p) m) (λ k. refl) (remove-num s work n) h
    (λ j a e. fit-intro s _ (remove-fits s work n j a e))

step-land : (i : ℕ) (s : Session) (card work : List ℕ) (p : Pending) (m : List Item) → FitOf s work → FitW (after (land_c i) (mk card work s p m))
unfolding after land refused done by_number
step-land i None card work p m h = h
step-land i (Some s) card work p m h =
    by-plan (λ (r : Changed). r.answer.number) FitW (mk card work (Some s) p m) _ _ (λ r. mk r.image work (Some s) p m) (λ k. refl) (both-num s card work (guard-num 10 _ ahead!)) h (λ j a e. h)

-- the session after a sync fits what the sync left
pub next_fits : (s : Opened) (work : List ℕ) → Fit s work → s.worn ≡ false → fits (grown (at_top s) s) (sync_work s work) ≡ true
next_fits s work F live = go (at_top s) refl
  where
    go : (b : Bool) → at_top s ≡ b → fits (grown b s) (sync_work s work) ≡ true
    go true e = fit-intro (grown true s) (sync_work s work) (worn-fits s (sync_work s work) (sync-rest s work F live) (eqb-true s.t.0 max_tx (unfold at_top in e)))
    go false e =
        fit-intro (grown false s) (sync_work s work)
        (rest-fits s (sync_work s work) (sync-rest s work F live) (let q : s.t.0 < max_tx = not_top s F.tx e in omega arith))

step-sync : (s : Session) (card work : List ℕ) (p : Pending) (m : List Item) → FitOf s work → FitW (after sync_c (mk card work s p m))
unfolding after stepped steps_of syncs_by sync refused by_number
step-sync None card work p m h = h
step-sync (Some s) card work p m h =
    by-plan (λ (r : Ended). r.answer.number) FitW (mk card work (Some s) p m) _ _
    (λ r. mk r.card r.work r.session (play (by_number r.answer.number (sync_steps s card work []) []) p) (shown_in (Some s) work)) (λ k. refl)
    (both-num s card work (guard-num 8 _ ahead!)) h
    (λ j a e. let (F, live) = sync-live s card work e in finish F live)
  where
    finish : Fit s work → s.worn ≡ false
        → FitW (by_number (sync_done s card work).answer.number
        (mk (sync_done s card work).card (sync_done s card work).work (sync_done s card work).session
        (play (by_number (sync_done s card work).answer.number (sync_steps s card work []) []) p) (shown_in (Some s) work)) (mk card work (Some s) p m))
    finish F live = unfold sync_done done by_number in next_fits s work F live

step-unmount : (s : Session) (card work : List ℕ) (p : Pending) (m : List Item) → FitOf s work → FitW (after unmount_c (mk card work s p m))
unfolding after stepped steps_of unmounts_by unmount unmount_done refused done by_number
step-unmount None card work p m h = h
step-unmount (Some s) card work p m h =
    by-plan (λ (r : Ended). r.answer.number) FitW (mk card work (Some s) p m) _ _
    (λ r. mk r.card r.work r.session (play (by_number r.answer.number (unmount_steps s card work) []) p) (shown_in (Some s) work)) (λ k. refl)
    (both-num s card work ahead!) h (λ j a e. tt)

mount-closed : (card work : List ℕ) (p : Pending) (m : List Item) → FitW (stepped (mk card work None p m) (mount card work) (steps_of mount_c (mk card work None p m)) (shown_by card))
unfolding stepped steps_of mount mount_done refused done by_number
mount-closed card work p m =
    by-plan (λ (r : Ended). r.answer.number) FitW (mk card work None p m) _ _
    (λ r. mk r.card r.work r.session (play (by_number r.answer.number (mount_steps card) []) p) (shown_by card)) (λ k. refl) (mount-num card work) tt
    (λ j a e.
    let (x, y) = mount-good card work j a e in
    fit-intro (opened_from card) (apply_steps (mount_steps card) card) (mount-fits card x y (mount-few card work j a e)))

step-mount : (s : Session) (card work : List ℕ) (p : Pending) (m : List Item) → FitW (after mount_c (mk card work s p m))
unfolding after before end_open
step-mount None card work p m = mount-closed card work p m
step-mount (Some s) card work p m = over (mount-closed card work (settled card) (shown_by card))
  where
    over : FitW (stepped (mk card work None (settled card) (shown_by card)) (mount card work) (steps_of mount_c (mk card work None (settled card) (shown_by card))) (shown_by card))
        → FitW (stepped (after_cut card work) (mount (after_cut card work).card (after_cut card work).work) (steps_of mount_c (after_cut card work)) (shown_by (after_cut card work).card))
    over h = unfold after_cut in h

pub step : (c : Call) (w : World) → FitW w → FitW (after c w)
step (make_c g) w h = step-make g w h
step mount_c w h = step-mount w.session w.card w.work w.pending w.last
step sync_c w h = step-sync w.session w.card w.work w.pending w.last h
step unmount_c w h = step-unmount w.session w.card w.work w.pending w.last h
step (put_c n d goal) w h = step-put n d goal w.session w.card w.work w.pending w.last h
step (remove_c n) w h = step-remove n w.session w.card w.work w.pending w.last h
step (land_c i) w h = step-land i w.session w.card w.work w.pending w.last h
step (get_c n out) w h = (unfold after in h)
step (list_c lines) w h = (unfold after in h)
step free_c w h = (unfold after in h)

-- "no call meets a session that does not fit, after any history of calls and cuts": what every inner call requires
pub always-fits : {w : World} → Reach w → FitOf w.session w.work
always-fits (fresh g work ok) = cut-closed _ work
always-fits (call {w = w} r c) = step c w (always-fits r)
always-fits (cut r card work h) = cut-closed card work
always-fits (cut_in r c n card work h) = cut-closed card work

-- the same for a call that is lent a card
pub always-fits-on : {w : World} → Reach w → (card : List ℕ) → FitOn w.session card w.work
always-fits-on {w} r card = on_of w.session card w.work (always-fits r)
