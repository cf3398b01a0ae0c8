-- What FitKept states, proved. Assumes nothing.
use Rattle.std.specs.Prelude.{Some}
use mathlib.Core.List.{List}
use Prim.Native.Nat.{ℕ}
use Rattle.card.specs.Plan.{Changed}
use Rattle.card.proofs.PlanLaws.{ahead!, guard-num, passing}
use Rattle.session.specs.declared.Opened.{Opened}
use Rattle.session.proofs.FitLaws.{fit-intro}
use Rattle.session.specs.FitMeans.{Fits}
use Rattle.session.proofs.FitMeansProved.{fits-mean}
use Rattle.store.specs.Mount.{Ended, opened_from, mount_done, mount}
use Rattle.store.specs.Edit.{put_at, remove}
use Rattle.store.specs.Sync.{sync_done, sync}
use Rattle.store.proofs.Plans.{put-num, remove-num, both-num, mount-few, mount-good, mount-num, sync-live}
use Rattle.promises_answers.proofs.Fit.FitAll.{put-fits, remove-fits}
use Rattle.promises_crash.proofs.Fit.FitMount.{mount-fits}
use Rattle.promises_crash.proofs.Fit.FitHistory.{next_fits}
use Rattle.promises_crash.specs.FitKept.{FitsIn, KeepsFit}

of-mount : (card work : List ℕ) → FitsIn (mount card work).session (mount card work).work
unfolding mount
of-mount card work =
    passing (λ (r : Ended). FitsIn r.session r.work) _ _ (mount-num card work) (λ k. tt)
    (λ j a e.
    let (x, y) = mount-good card work j a e in
    unfold mount_done in (fits-mean (opened_from card) _).0 (fit-intro (opened_from card) _ (mount-fits card x y (mount-few card work j a e))))

of-put : (s : Opened) (work n d : List ℕ) (goal : ℕ) → Fits s work → Fits s (put_at (Some s) work n d goal).image
unfolding put_at
of-put s work n d goal f =
    passing (λ (r : Changed). Fits s r.image) _ _ (put-num s work n d goal) (λ k. f) (λ j a e. (fits-mean s _).0 (fit-intro s _ (put-fits s work n d goal j a e)))

of-remove : (s : Opened) (work n : List ℕ) → Fits s work → Fits s (remove (Some s) work n).image
unfolding remove
of-remove s work n f =
    passing (λ (r : Changed). Fits s r.image) _ _ (remove-num s work n) (λ k. f) (λ j a e. (fits-mean s _).0 (fit-intro s _ (remove-fits s work n j a e)))

of-sync : (s : Opened) (card work : List ℕ) → Fits s work → FitsIn (sync (Some s) card work).session (sync (Some s) card work).work
unfolding sync
of-sync s card work f =
    passing (λ (r : Ended). FitsIn r.session r.work) _ _ (both-num s card work (guard-num 8 _ ahead!)) (λ k. f)
    (λ j a e. let (F, live) = sync-live s card work e in (unfold sync_done in (fits-mean _ _).0 (next_fits s work F live)))

pub keeps-fit : KeepsFit
keeps-fit = record { of_mount = of-mount; of_put = of-put; of_remove = of-remove; of_sync = of-sync }
