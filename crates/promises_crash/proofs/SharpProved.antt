-- What Sharp states, proved. Assumes nothing.
use Rattle.std.specs.Prelude.{Some}
use mathlib.Core.Path.{◌≡◌, refl, sym, ap, ◌∙◌, subst}
use mathlib.Core.Bool.{Bool, true, false}
use mathlib.Core.List.{List, []}
use Prim.Native.Nat.{ℕ, zero, suc, ◌+◌, ◌-◌, ◌*◌, ◌≤◌}
use native.Mathlib.Omega.{arith}
use lib.ListN.{length, take}
use lib.Seq.{take-append-add}
use Rattle.sectors.specs.Sectors.{Step}
use Rattle.session.specs.declared.Opened.{Opened}
use Rattle.session.specs.Session.{Session}
use Rattle.session.proofs.FitLaws.{Fit, fit-inv}
use Rattle.store.specs.Steps.{set_word, sync_steps, at_top, down_steps, unmount_steps_by, unmount_steps}
use Rattle.store.proofs.SyncFewer.{sync-append}
use Rattle.store.specs.Sync.{unmount}
use Rattle.promises_answers.specs.PlainList.{Item, shown_in}
use Rattle.promises_crash.specs.History.{Pending, play, settled, Left, by_number, before, unmounts_by, steps_of, pending_in, unmount_c, Reach, Reads}
use Rattle.promises_crash.proofs.State.{calm-reads, Live}
use Rattle.promises_crash.proofs.Inv.{mk}
use Rattle.promises_crash.proofs.Demand.{inv}
use Rattle.promises_crash.proofs.Fit.FitHistory.{always-fits}
use Rattle.promises_crash.proofs.Run.Steps.{to-live}
use Rattle.promises_crash.proofs.Run.StepAll.{not_top}
use Rattle.promises_crash.proofs.Run.SyncRun.{new-rests, sync-play}
use Rattle.promises_crash.proofs.Run.SyncEnd.{down-calm}
use Rattle.promises_crash.specs.Sharp.{UnmountSharp}

-- a sync stands in front of what follows it
take-sync : (s : Opened) (card work : List ℕ) (k : ℕ) (r : List Step) → take (length (sync_steps s card work []) + k) (sync_steps s card work r) ≡ sync_steps s card work (take k r)
take-sync s card work k r =
    ap (take (length (sync_steps s card work []) + k)) (sync-append s card work r) ∙ take-append-add (sync_steps s card work []) r k ∙ sym (sync-append s card work (take k r))

module _ (s : Opened) (card work : List ℕ) (p : Pending) (m : List Item) (V₀ : Live s card work p m) (F : Fit s work) (live : s.worn ≡ false) where
  abbrev new_work : List ℕ
  new_work = set_word s.c.0 s.t.0 work

  -- the cuts behind the sync
  behind : (b : Bool) → at_top s ≡ b → (k : ℕ) (c : List ℕ) → Left (play (take k (down_steps b s new_work)) (settled new_work)) (512 * s.geo.s) c → Reads c (shown_in (Some s) work)
  unfolding down_steps play
  behind true q zero c x = calm-reads s.geo new_work (settled new_work) _ (new-rests s card work p m V₀ F live).calm c x
  behind true q (suc k) c x = calm-reads s.geo new_work (settled new_work) _ (new-rests s card work p m V₀ F live).calm c x
  behind false q zero c x = calm-reads s.geo new_work (settled new_work) _ (new-rests s card work p m V₀ F live).calm c x
  behind false q (suc zero) c x = calm-reads s.geo _ _ _ (down-calm s card work p m V₀ F live (not_top s F.tx q)) c x
  behind false q (suc (suc k)) c x = calm-reads s.geo _ _ _ (down-calm s card work p m V₀ F live (not_top s F.tx q)) c x

  sharp : (n : ℕ) → length (sync_steps s card work []) ≤ n → (c : List ℕ) → Left (play (take n (unmount_steps s card work)) p) (512 * s.geo.s) c → Reads c (shown_in (Some s) work)
  sharp n h c x = behind (at_top s) refl k c (rw (steps, e, take-sync s card work k down, sync-play s card work p m V₀ F live (take k down)) at x)
    where
      down : List Step
      down = down_steps (at_top s) s new_work

      k : ℕ
      k = n - length (sync_steps s card work [])

      e : n ≡ length (sync_steps s card work []) + k
      e = omega arith

      steps : unmount_steps s card work ≡ sync_steps s card work down
      steps = unfold unmount_steps unmount_steps_by in ap (λ (x : Bool). unmount_steps_by x s card work) live

-- at a world of a history
sharp-at : (s : Opened) (card work : List ℕ) (p : Pending) (m : List Item) → Reach (mk card work (Some s) p m) → s.worn ≡ false
    → (unmount (Some s) card work).answer.number ≡ 0 → (n : ℕ) → length (sync_steps s card work []) ≤ n → (c : List ℕ)
    → Left (pending_in unmount_c n (mk card work (Some s) p m)) (length card) c → Reads c (shown_in (Some s) work)
unfolding pending_in before steps_of unmounts_by by_number
sharp-at s card work p m r live z n h c x =
    let V₀ = to-live s (mk card work (Some s) p m) live (inv r) in
    let F = fit-inv s work (always-fits r) in
    sharp s card work p m V₀ F live n h c (rw (z, V₀.sized) at x)

pub unmount-sharp : UnmountSharp
unmount-sharp w r s e live z n h c x = go w.session e r z x
  where
    go : (o : Session) → o ≡ Some s → Reach (mk w.card w.work o w.pending w.last) → (unmount o w.card w.work).answer.number ≡ 0
        → Left (pending_in unmount_c n (mk w.card w.work o w.pending w.last)) (length w.card) c → Reads c (shown_in o w.work)
    go o q r z x =
        subst (λ (o : Session). Reach (mk w.card w.work o w.pending w.last) → (unmount o w.card w.work).answer.number ≡ 0
        → Left (pending_in unmount_c n (mk w.card w.work o w.pending w.last)) (length w.card) c → Reads c (shown_in o w.work)) (sym q)
        (λ r z x. sharp-at s w.card w.work w.pending w.last r live z n h c x) r z x
