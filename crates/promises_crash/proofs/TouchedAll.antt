-- Every history: what its puts and removes since the latest sync or mount did not mark may hold one value only. Assumes nothing.
use Rattle.std.specs.Prelude.{Some, None}
use mathlib.Core.Path.{◌≡◌, refl}
use mathlib.Core.List.{List, []}
use Prim.Native.Nat.{ℕ, zero, suc}
use lib.ListN.{length}
use Rattle.sectors.specs.declared.Sector.{Sector}
use Rattle.sectors.specs.Sectors.{sec}
use Rattle.entries.specs.declared.Version.TheVariants.{Absent, Present}
use Rattle.entries.specs.Entries.{sectors_for}
use Rattle.card.specs.Plan.{Plan, refuse, do_it, ended, refused, done}
use Rattle.card.proofs.PlanLaws.{Num, no!, go!, ahead!, guard-num, guard-inv, need-inv, passing}
use Rattle.session.specs.declared.Opened.{Opened}
use Rattle.session.specs.Session.{Session}
use Rattle.store.specs.Steps.{at_top, sync_steps, mount_steps}
use Rattle.store.specs.Mount.{Ended, opened_from, mount_done, mount}
use Rattle.store.specs.Edit.{put_run, put_work, put_at, remove_plan, remove_work, remove}
use Rattle.store.specs.Sync.{grown, sync_done, sync, unmount_done, unmount}
use Rattle.store.proofs.Plans.{put_inv, put-num, remove-inv, remove-num, both-num, mount-num, sync-live}
use Rattle.promises_answers.specs.PlainList.{Item, shown_by, shown_in}
use Rattle.promises_crash.specs.History.{Pending, play, World, after_cut, by_number, end_open, before, syncs_by, unmounts_by, steps_of, edited, stepped, Call, make_c, mount_c, sync_c, unmount_c, put_c, remove_c, land_c, get_c, list_c, free_c, after, Reach, fresh, call, cut, cut_in}
use Rattle.promises_answers.proofs.Calls.{put-ready, remove-ready}
use Rattle.promises_crash.proofs.Inv.{InvOf, Inv, mk}
use Rattle.promises_crash.proofs.Run.Steps.{to-live}
use Rattle.promises_crash.proofs.Run.SyncRun.{sync-play}
use Rattle.promises_crash.proofs.Demand.{inv}
use Rattle.promises_crash.specs.Fewer.{Marks, no_marks, marked, put_marks, remove_marks, marks_by, marks}
use Rattle.promises_crash.proofs.Touched.{OneValue, Touched, one-settled, one-newest, touched_none, touched-more}

abbrev TouchedW : World → Marks → Type 0
TouchedW w M = Touched w.session w.pending M

-- by a plan that refuses, or goes through
pub by-num : (P : Plan → Type 0) {p : Plan} → Num p → ((k : ℕ) → P (refuse (suc k))) → ((j : ℕ) (a : Sector) → p ≡ do_it j a → P (do_it j a)) → P p
by-num P (no! k) x y = x k
by-num P (go! j a) x y = y j a refl

-- ---- put and remove

touched-put : (n d : List ℕ) (goal : ℕ) (o : Session) (card work : List ℕ) (p : Pending) (m : List Item) (M : Marks) → InvOf o (mk card work o p m) → Touched o p M
    → TouchedW (after (put_c n d goal) (mk card work o p m)) (marks_by (put_c n d goal) (mk card work o p m) M)
unfolding after edited marks_by put_marks marked put_at refused done by_number ended
touched-put n d goal None card work p m M h T = T
touched-put n d goal (Some s) card work p m M h T =
    by-num (λ (q : Plan). TouchedW (edited (mk card work (Some s) p m) (ended q (λ k. record { answer = refused k; image = work }) (λ j a. record { answer = done 0; image = put_work s j a work n d })))
    (marked s work (sectors_for (length d)) q M))
    (put-num s work n d goal) (λ k. T)
    (λ j a e.
    let V₀ = to-live s (mk card work (Some s) p m) (put_inv s work n d goal j a e).live h in
    unfold put_work in touched-more s j a.0 (sectors_for (length d)) (Present (put_run a d)) card work n d p m (put-ready s work (sec work) refl n d goal j a e) V₀ M T)

-- remove's plan names no sector
remove-zero : (s : Opened) (work n : List ℕ) (j : ℕ) (a : Sector) → remove_plan s work n ≡ do_it j a → a.0 ≡ 0
unfolding remove_plan
remove-zero s work n j a h = let (i, x, e) = need-inv 6 _ _ (guard-inv 5 _ _ (guard-inv 9 _ _ (guard-inv 2 _ _ h).1).1).1 in cc

touched-remove : (n : List ℕ) (o : Session) (card work : List ℕ) (p : Pending) (m : List Item) (M : Marks) → InvOf o (mk card work o p m) → Touched o p M
    → TouchedW (after (remove_c n) (mk card work o p m)) (marks_by (remove_c n) (mk card work o p m) M)
unfolding after edited marks_by remove_marks marked remove refused done by_number ended
touched-remove n None card work p m M h T = T
touched-remove n (Some s) card work p m M h T =
    by-num (λ (q : Plan). TouchedW (edited (mk card work (Some s) p m) (ended q (λ k. record { answer = refused k; image = work }) (λ j a. record { answer = done 0; image = remove_work s j work n })))
    (marked s work 0 q M))
    (remove-num s work n) (λ k. T)
    (λ j a e.
    let V₀ = to-live s (mk card work (Some s) p m) (remove-inv s work n j a e).live h in
    rw (remove-zero s work n j a e) (unfold remove_work in touched-more s j 0 0 Absent card work n [] p m (remove-ready s work (sec work) refl n j a e) V₀ M T))

-- ---- mount, sync and unmount begin anew

-- mount's barrier leaves one value everywhere
one-mount : (card : List ℕ) (p : Pending) (i : ℕ) → OneValue (play (mount_steps card) p i)
unfolding mount_steps play
one-mount card p i = one-newest _

touched-mount : (card work : List ℕ) (p : Pending) (m : List Item) → TouchedW (stepped (mk card work None p m) (mount card work) (steps_of mount_c (mk card work None p m)) (shown_by card)) no_marks
unfolding stepped steps_of mount mount_done refused done by_number
touched-mount card work p m =
    passing (λ (r : Ended). TouchedW (by_number r.answer.number (mk r.card r.work r.session (play (by_number r.answer.number (mount_steps card) []) p) (shown_by card)) (mk card work None p m)) no_marks)
    _ _ (mount-num card work) (λ k. tt)
    (λ j a e. touched_none (Some (opened_from card)) (play (mount_steps card) p) no_marks (one-mount card p))

touched-sync : (o : Session) (card work : List ℕ) (p : Pending) (m : List Item) (M : Marks) → InvOf o (mk card work o p m) → Touched o p M
    → TouchedW (after sync_c (mk card work o p m)) (marks_by sync_c (mk card work o p m) M)
unfolding after stepped steps_of syncs_by marks_by sync sync_done refused done by_number
touched-sync None card work p m M h T = T
touched-sync (Some s) card work p m M h T =
    passing (λ (r : Ended). TouchedW (by_number r.answer.number (mk r.card r.work r.session (play (by_number r.answer.number (sync_steps s card work []) []) p) (shown_in (Some s) work)) (mk card work (Some s) p m))
    (by_number r.answer.number no_marks M))
    _ _ (both-num s card work (guard-num 8 _ ahead!)) (λ k. T)
    (λ j a e.
    let (F, live) = sync-live s card work e in
    let V₀ = to-live s (mk card work (Some s) p m) live h in
    touched_none (Some (grown (at_top s) s)) (play (sync_steps s card work []) p) no_marks (λ i. rw (sync-play s card work p m V₀ F live []) (unfold play in one-settled _ i)))

touched-unmount : (o : Session) (card work : List ℕ) (p : Pending) (m : List Item) (M : Marks) → Touched o p M
    → TouchedW (after unmount_c (mk card work o p m)) (marks_by unmount_c (mk card work o p m) M)
unfolding after stepped steps_of unmounts_by marks_by unmount unmount_done refused done by_number
touched-unmount None card work p m M T = T
touched-unmount (Some s) card work p m M T =
    passing (λ (r : Ended). TouchedW (by_number r.answer.number (mk r.card r.work r.session (play (by_number r.answer.number (unmounts_by (Some s) card work) []) p) (shown_in (Some s) work)) (mk card work (Some s) p m))
    (by_number r.answer.number no_marks M))
    _ _ (both-num s card work ahead!) (λ k. T) (λ j a e. tt)

-- ---- the others leave session and pending values, or end the session

touched-like : (n : ℕ) (v w : World) (M : Marks) → TouchedW w M → v.session ≡ w.session → v.pending ≡ w.pending → TouchedW (by_number n v w) M
unfolding by_number
touched-like zero v w M T e f = rw (e, f) T
touched-like (suc n) v w M T e f = T

touched-make : (n : ℕ) (card work : List ℕ) (w : World) (M : Marks) → TouchedW w M → TouchedW (by_number n (after_cut card work) w) M
unfolding by_number after_cut
touched-make zero card work w M T = tt
touched-make (suc n) card work w M T = T

touched-open : (o : Session) (card work : List ℕ) (p : Pending) (m : List Item) → TouchedW (after mount_c (mk card work o p m)) no_marks
unfolding after before end_open after_cut
touched-open None card work p m = touched-mount card work p m
touched-open (Some s) card work p m = touched-mount card work _ _

touched-step : (w : World) (M : Marks) → Inv w → TouchedW w M → (x : Call) → TouchedW (after x w) (marks_by x w M)
touched-step w M h T (make_c g) = unfold after marks_by in touched-make _ _ _ w M T
touched-step w M h T mount_c = unfold marks_by in touched-open w.session w.card w.work w.pending w.last
touched-step w M h T sync_c = touched-sync w.session w.card w.work w.pending w.last M h T
touched-step w M h T unmount_c = touched-unmount w.session w.card w.work w.pending w.last M T
touched-step w M h T (put_c n d goal) = touched-put n d goal w.session w.card w.work w.pending w.last M h T
touched-step w M h T (remove_c n) = touched-remove n w.session w.card w.work w.pending w.last M h T
touched-step w M h T (land_c i) = unfold after marks_by in touched-like _ _ w M T refl refl
touched-step w M h T (get_c n out) = unfold after marks_by in T
touched-step w M h T (list_c lines) = unfold after marks_by in T
touched-step w M h T free_c = unfold after marks_by in T

pub touched : {w : World} (r : Reach w) → Touched w.session w.pending (marks r)
unfolding marks
touched (fresh g work ok) = unfold after_cut in tt
touched (call {w = w} r c) = touched-step w (marks r) (inv r) (touched r) c
touched (cut r card work x) = unfold after_cut in tt
touched (cut_in r c n card work x) = unfold after_cut in tt
