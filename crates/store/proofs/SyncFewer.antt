-- Sync and unmount where the writes that would change nothing are left out: the same card, and how far they are after so many places. Assumes nothing.
use mathlib.Core.Path.{◌≡◌, refl, sym, ap, ◌∙◌}
use mathlib.Core.Bool.{Bool, true, false}
use mathlib.Core.List.{List, [], ◌++◌}
use Prim.Native.Nat.{ℕ, suc, ◌+◌, ◌≤◌}
use native.Mathlib.Omega.{arith}
use lib.ListN.{length, take}
use lib.Seq.{take_all}
use Rattle.sectors.specs.Sectors.{Step, apply_steps, copy_steps, diff_steps, lean}
use Rattle.sectors.proofs.Fewer.{lean-apply, lean-first, lean-copy, diff-behind, diff-append}
use Rattle.session.specs.declared.Opened.{Opened}
use Rattle.store.specs.Steps.{past_table, table_steps, sync_steps, all_steps, unmount_steps_by, unmount_steps, all_down_by, all_down, synced_at, down_at}
use Rattle.store.proofs.SyncLaws.{sync-length, unmount-length}

-- ---- what is left of the full copy are the steps of the call

pub sync-lean : (s : Opened) (card work : List ℕ) (r : List Step) → lean (past_table s + 1) card (all_steps s work r) ≡ sync_steps s card work r
unfolding sync_steps all_steps
sync-lean s card work r =
    let q : past_table s + 1 ≡ 1 + past_table s = omega arith in
    let z : past_table s ≡ past_table s + 0 = omega arith in
    let R : List Step = copy_steps work (s.geo.t + 1) (past_table s) (table_steps s work r) in
    let c : List ℕ = apply_steps (copy_steps work 0 1 []) card in
    ap (λ (n : ℕ). lean n card (copy_steps work 0 1 R)) q
    ∙ lean-copy 1 0 (past_table s) card work R
    ∙ ap (λ (l : List Step). diff_steps card work 0 1 l)
    (ap (λ (n : ℕ). lean n c R) z ∙ lean-copy (past_table s) (s.geo.t + 1) 0 c work (table_steps s work r) ∙ tail)
  where
    tail : diff_steps (apply_steps (copy_steps work 0 1 []) card) work (s.geo.t + 1) (past_table s)
        (lean 0 (apply_steps (copy_steps work (s.geo.t + 1) (past_table s) []) (apply_steps (copy_steps work 0 1 []) card)) (table_steps s work r))
        ≡ diff_steps card work (s.geo.t + 1) (past_table s) (table_steps s work r)
    tail = unfold lean in diff-behind 1 (past_table s) 0 (s.geo.t + 1) card work _ (omega arith)

down-lean-by : (b : Bool) (s : Opened) (card work : List ℕ) → lean (past_table s + 1) card (all_down_by b s work) ≡ unmount_steps_by b s card work
unfolding all_down_by unmount_steps_by
down-lean-by true s card work = let q : past_table s + 1 ≡ suc (past_table s) = omega arith in rw q (unfold lean in refl)
down-lean-by false s card work = sync-lean s card work _

pub down-lean : (s : Opened) (card work : List ℕ) → lean (past_table s + 1) card (all_down s work) ≡ unmount_steps s card work
unfolding all_down unmount_steps
down-lean s card work = down-lean-by s.worn s card work

-- what stands behind a sync stands behind its steps
pub sync-append : (s : Opened) (card work : List ℕ) (r : List Step) → sync_steps s card work r ≡ sync_steps s card work [] ++ r
unfolding sync_steps
sync-append s card work r =
    ap (diff_steps card work 0 1) (diff-append card work (s.geo.t + 1) (past_table s) (table_steps s work []) r)
    ∙ diff-append card work 0 1 (diff_steps card work (s.geo.t + 1) (past_table s) (table_steps s work [])) r

-- ---- the card is that of the full copy, for every input

pub sync-same-card : (s : Opened) (card work : List ℕ) (r : List Step) → apply_steps (sync_steps s card work r) card ≡ apply_steps (all_steps s work r) card
sync-same-card s card work r = rw (← sync-lean s card work r) (lean-apply (past_table s + 1) (all_steps s work r) card)

pub down-same-card : (s : Opened) (card work : List ℕ) → apply_steps (unmount_steps s card work) card ≡ apply_steps (all_down s work) card
down-same-card s card work = rw (← down-lean s card work) (lean-apply (past_table s + 1) (all_down s work) card)

-- ---- after the first k places

pub sync_at : (s : Opened) (card work : List ℕ) (k : ℕ) {f : List ℕ} → f ≡ apply_steps (take k (all_steps s work [])) card
    → f ≡ apply_steps (take (synced_at s card work k) (sync_steps s card work [])) card
unfolding synced_at
sync_at s card work k e =
    e ∙ sym (lean-apply (past_table s + 1) (take k (all_steps s work [])) card)
    ∙ ap (λ (l : List Step). apply_steps l card)
    (lean-first (past_table s + 1) k (all_steps s work []) card
    ∙ ap (λ (l : List Step). take (length (lean (past_table s + 1) card (take k (all_steps s work [])))) l) (sync-lean s card work []))

pub down-at : (s : Opened) (card work : List ℕ) (k : ℕ) {f : List ℕ} → f ≡ apply_steps (take k (all_down s work)) card
    → f ≡ apply_steps (take (down_at s card work k) (unmount_steps s card work)) card
unfolding down_at
down-at s card work k e =
    e ∙ sym (lean-apply (past_table s + 1) (take k (all_down s work)) card)
    ∙ ap (λ (l : List Step). apply_steps l card)
    (lean-first (past_table s + 1) k (all_down s work) card
    ∙ ap (λ (l : List Step). take (length (lean (past_table s + 1) card (take k (all_down s work)))) l) (down-lean s card work))

-- as many places as there are
pub sync-whole : (s : Opened) (card work : List ℕ) (k : ℕ) → past_table s + 4 ≤ k → take (synced_at s card work k) (sync_steps s card work []) ≡ sync_steps s card work []
unfolding synced_at
sync-whole s card work k h =
    let e : take k (all_steps s work []) ≡ all_steps s work [] = take_all k _ (omega (arith, sync-length s work [])) in
    rw (e, sync-lean s card work []) (take_all (length (sync_steps s card work [])) _ (omega arith))

pub down-whole : (s : Opened) (card work : List ℕ) (k : ℕ) → past_table s + 5 ≤ k → take (down_at s card work k) (unmount_steps s card work) ≡ unmount_steps s card work
unfolding down_at
down-whole s card work k h =
    let e : take k (all_down s work) ≡ all_down s work = take_all k _ (unfold all_down in omega (arith, unmount-length s.worn s work)) in
    rw (e, down-lean s card work) (take_all (length (unmount_steps s card work)) _ (omega arith))
