-- How many sectors sync and unmount write at each place, and in all. Assumes nothing.
use mathlib.Core.Path.{◌≡◌, refl, sym, ap, ◌∙◌}
use mathlib.Core.Bool.{Bool, true, false}
use mathlib.Core.Logic.{◌≢◌}
use mathlib.Core.List.{List, [], ◌++◌}
use Prim.Native.Nat.{ℕ, zero, suc, ◌+◌, ◌-◌, ◌≤◌, ◌<◌}
use native.Mathlib.Omega.{arith}
use native.Mathlib.Decide.{dec_lt}
use lib.ListN.{length, take}
use lib.Seq.{take-append-le}
use Rattle.sectors.specs.Sectors.{Step, apply_steps, copy_steps, writes_in, differs, lean, lean_writes}
use Rattle.sectors.proofs.Fewer.{lean-first, copy-append, count-copy, count-behind, count_turn}
use Rattle.session.specs.declared.Opened.{Opened}
use Rattle.store.specs.Steps.{past_table, table_steps, sync_steps, all_steps, unmount_steps, all_down_by, all_down, synced_at, down_at, written_at, counted_at, counted_by, unmount_count}
use Rattle.store.proofs.SyncLaws.{sync-length}
use Rattle.store.proofs.SyncFewer.{sync-lean, sync-whole, down-whole}
use Rattle.store.specs.Inner.{counts_at}

-- ---- what is written at place number k of sync

module _ (s : Opened) (work card : List ℕ) where
  pub count-first : {k : ℕ} → k ≡ 0 → differs card work 0 ≡ lean_writes (past_table s + 1) k (all_steps s work []) card
  unfolding all_steps
  count-first z = rw z (sym (count-copy work 0 1 (past_table s + 1) 0 _ card (omega arith) (omega arith)))

  second : (j : ℕ) → lean_writes (past_table s + 1) (1 + j) (all_steps s work []) card
      ≡ lean_writes (past_table s) j (copy_steps work (s.geo.t + 1) (past_table s) (table_steps s work [])) card
  unfolding all_steps
  second j = let q : past_table s + 1 ≡ 1 + past_table s = omega arith in rw q (count-behind work 0 1 (past_table s) j _ card)

  pub count_past : {k : ℕ} → k ≢ 0 → k ≤ past_table s → differs card work (s.geo.t + k) ≡ lean_writes (past_table s + 1) k (all_steps s work []) card
  count_past {k} n h =
      let one : 1 + (k - 1) ≡ k = omega arith in
      let at : s.geo.t + 1 + (k - 1) ≡ s.geo.t + k = omega arith in
      sym (rw (one, at) at (second (k - 1) ∙ count-copy work (s.geo.t + 1) (past_table s) (past_table s) (k - 1) _ card (omega arith) (omega arith)))

  behind : (j : ℕ) → lean_writes (past_table s + 1) (1 + (past_table s + j)) (all_steps s work []) card ≡ lean_writes 0 j (table_steps s work []) card
  behind j =
      let q : past_table s ≡ past_table s + 0 = omega arith in
      second (past_table s + j)
      ∙ ap (λ (n : ℕ). lean_writes n (past_table s + j) (copy_steps work (s.geo.t + 1) (past_table s) (table_steps s work [])) card) q
      ∙ count-behind work (s.geo.t + 1) (past_table s) 0 j _ card

  pub count-table : {k : ℕ} → k ≡ past_table s + 2 → 1 ≡ lean_writes (past_table s + 1) k (all_steps s work []) card
  unfolding lean_writes writes_in
  count-table {k} e = let q : 1 + (past_table s + 1) ≡ k = omega arith in sym (rw q at (behind 1))

  none : (j : ℕ) → j ≢ 1 → lean_writes 0 j (table_steps s work []) card ≡ 0
  unfolding lean_writes writes_in
  none zero n = refl
  none (suc zero) n = absurd (n refl)
  none (suc (suc zero)) n = refl
  none (suc (suc (suc j))) n = refl

  pub count-rest : {k : ℕ} → past_table s < k → k ≢ past_table s + 2 → 0 ≡ lean_writes (past_table s + 1) k (all_steps s work []) card
  count-rest {k} l n =
      let q : 1 + (past_table s + (k - past_table s - 1)) ≡ k = omega arith in
      sym (rw q at (behind (k - past_table s - 1)) ∙ none (k - past_table s - 1) (λ e. n (omega arith)))

-- ---- a turn of the loop

at-lean : (s : Opened) (card work : List ℕ) (k : ℕ) → written_at s card work k ≡ writes_in (lean (past_table s + 1) card (take k (all_steps s work [])))
unfolding written_at synced_at
at-lean s card work k =
    ap writes_in
    (sym (lean-first (past_table s + 1) k (all_steps s work []) card
    ∙ ap (λ (l : List Step). take (length (lean (past_table s + 1) card (take k (all_steps s work [])))) l) (sync-lean s card work [])))

pub written_none : (s : Opened) (card work : List ℕ) → 0 ≡ written_at s card work 0
written_none s card work = let q : past_table s + 1 ≡ suc (past_table s) = omega arith in sym (at-lean s card work 0 ∙ rw q (unfold lean writes_in in refl))

pub written-turn : (s : Opened) (work : List ℕ) (k : ℕ) (card₀ card : List ℕ) (w r : ℕ) → card ≡ apply_steps (take k (all_steps s work [])) card₀ → w ≡ written_at s card₀ work k
    → r ≡ lean_writes (past_table s + 1) k (all_steps s work []) card → w + r ≡ written_at s card₀ work (k + 1)
written-turn s work k card₀ card w r e f g =
    count_turn (past_table s + 1) k (all_steps s work []) card₀ card w r e (f ∙ at-lean s card₀ work k) g ∙ sym (at-lean s card₀ work (k + 1))

-- ---- and of unmount's: sync's count, as far as sync goes; none of a worn session

-- the first steps are the same whatever stands behind them
first-same : (s : Opened) (work : List ℕ) (r : List Step) (k : ℕ) → k ≤ past_table s + 4 → take k (all_steps s work r) ≡ take k (all_steps s work [])
first-same s work r k h = ap (λ (l : List Step). take k l) append ∙ take-append-le k (all_steps s work []) r (omega (arith, sync-length s work []))
  where
    append : all_steps s work r ≡ all_steps s work [] ++ r
    append =
        unfold all_steps in
        (ap (λ (l : List Step). copy_steps work 0 1 l) (copy-append work (s.geo.t + 1) (past_table s) (table_steps s work []) r)
        ∙ copy-append work 0 1 (copy_steps work (s.geo.t + 1) (past_table s) (table_steps s work [])) r)

pub counted_none : (b : Bool) (s : Opened) (card work : List ℕ) → 0 ≡ counted_at b s card work 0
unfolding counted_at
counted_none true s card work = refl
counted_none false s card work = written_none s card work

counted-by : (b : Bool) (s : Opened) (work : List ℕ) (k : ℕ) (card₀ card : List ℕ) (w r : ℕ) → card ≡ apply_steps (take k (all_down_by b s work)) card₀
    → w ≡ counted_at b s card₀ work k → r ≡ counts_at b s work k card → w + r ≡ counted_at b s card₀ work (k + 1)
unfolding counted_at counts_at all_down_by
counted-by true s work k card₀ card w r e f g = omega arith
counted-by false s work k card₀ card w r e f g = go (dec_lt k (past_table s + 4))
  where
    go : Dec (k < past_table s + 4) → w + r ≡ written_at s card₀ work (k + 1)
    go (yes h) = written-turn s work k card₀ card w r (e ∙ ap (λ (l : List Step). apply_steps l card₀) (first-same s work _ k (omega arith))) f g
    go (no h) =
        let z : r ≡ 0 = g ∙ sym (count-rest s work card (omega arith) (λ q. omega arith)) in
        let x : written_at s card₀ work k ≡ writes_in (sync_steps s card₀ work []) = (unfold written_at in ap writes_in (sync-whole s card₀ work k (omega arith))) in
        let y : written_at s card₀ work (k + 1) ≡ writes_in (sync_steps s card₀ work []) = (unfold written_at in ap writes_in (sync-whole s card₀ work (k + 1) (omega arith))) in
        omega arith

pub counted-turn : (s : Opened) (work : List ℕ) (k : ℕ) (card₀ card : List ℕ) (w r : ℕ) → card ≡ apply_steps (take k (all_down s work)) card₀
    → w ≡ counted_at s.worn s card₀ work k → r ≡ counts_at s.worn s work k card → w + r ≡ counted_at s.worn s card₀ work (k + 1)
unfolding all_down
counted-turn s work k card₀ card w r e f g = counted-by s.worn s work k card₀ card w r e f g

counted-whole-by : (b : Bool) (s : Opened) (card work : List ℕ) (k : ℕ) → past_table s + 4 ≤ k → counted_at b s card work k ≡ counted_by b s card work
unfolding counted_at counted_by written_at
counted-whole-by true s card work k h = refl
counted-whole-by false s card work k h = ap writes_in (sync-whole s card work k h)

counted-whole : (s : Opened) (card work : List ℕ) (k : ℕ) → past_table s + 4 ≤ k → counted_at s.worn s card work k ≡ unmount_count s card work
unfolding unmount_count
counted-whole s card work k h = counted-whole-by s.worn s card work k h

-- a step of sync, and one that counts nothing: past the table sector, or of a worn session
pub counts-live : (s : Opened) (work : List ℕ) (k : ℕ) (card : List ℕ) {r : ℕ} → s.worn ≡ false → r ≡ lean_writes (past_table s + 1) k (all_steps s work []) card → r ≡ counts_at s.worn s work k card
unfolding counts_at
counts-live s work k card w e = e ∙ ap (λ (b : Bool). counts_at b s work k card) (sym w)

pub counts-worn : (s : Opened) (work : List ℕ) (k : ℕ) (card : List ℕ) → s.worn ≡ true → 0 ≡ counts_at s.worn s work k card
unfolding counts_at
counts-worn s work k card w = ap (λ (b : Bool). counts_at b s work k card) (sym w)

-- ---- all places

pub sync-all : (s : Opened) (card work : List ℕ) (k : ℕ) {f : List ℕ} {r : ℕ} → past_table s + 4 ≤ k
    → (f ≡ apply_steps (take (synced_at s card work k) (sync_steps s card work [])) card) × (r ≡ written_at s card work k)
    → (r ≡ writes_in (sync_steps s card work [])) × (f ≡ apply_steps (sync_steps s card work []) card)
unfolding written_at
sync-all s card work k h e =
    let w = sync-whole s card work k h in
    (e.1 ∙ ap writes_in w, e.0 ∙ ap (λ (l : List Step). apply_steps l card) w)

pub down-all : (s : Opened) (card work : List ℕ) (k : ℕ) {f : List ℕ} {r : ℕ} → past_table s + 5 ≤ k
    → (f ≡ apply_steps (take (down_at s card work k) (unmount_steps s card work)) card) × (r ≡ counted_at s.worn s card work k)
    → (r ≡ unmount_count s card work) × (f ≡ apply_steps (unmount_steps s card work) card)
down-all s card work k h e =
    (e.1 ∙ counted-whole s card work k (omega arith), e.0 ∙ ap (λ (l : List Step). apply_steps l card) (down-whole s card work k h))
