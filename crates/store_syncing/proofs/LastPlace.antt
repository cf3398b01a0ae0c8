-- Past its last place sync writes nothing, and unmount nothing. Assumes nothing.
use mathlib.Core.Path.{◌≡◌, refl, sym, ap, ◌∙◌}
use mathlib.Core.Bool.{Bool, true, false}
use mathlib.Core.List.{List, []}
use mathlib.Core.Logic.{◌⊎◌, ⊎_elim}
use Prim.Native.Nat.{ℕ, ◌+◌, ◌≤◌, min}
use native.Mathlib.Omega.{arith}
use lib.ListN.{length, take}
use Rattle.sectors.specs.Sectors.{Step, apply_steps, lean, writes_in}
use Rattle.sectors.proofs.SectorLaws.{steps-turn}
use Rattle.session.specs.declared.Opened.{Opened}
use Rattle.store.specs.Steps.{past_table, sync_steps, all_steps, unmount_steps, all_down, synced_at, down_at, written_at, counted_at, unmount_count}
use Rattle.store.proofs.WriteLaws.{can-still, count-sector, word_first, word-sector}
use Rattle.store.proofs.SyncLaws.{sync-length, unmount-length, sync-first, sync-past, sync-rest, sync-table, unmount-worn, unmount-sync, unmount-past, unmount-top, unmount-down}
use Rattle.store.proofs.SyncCounts.{count-first, count_past, count-rest, count-table, written_none, written-turn, counted_none, counted-turn, counts-live, counts-worn, sync-all, down-all}
use Rattle.store.proofs.SyncFewer.{sync_at, down-at, sync-whole, down-whole}
use Rattle.store_mounting.proofs.Places.{first-places}

-- ---- i places are as good as k, where i is no further than the last

module _ (s : Opened) (card work : List ℕ) (k i : ℕ) where
  sync-within : (n : ℕ) → past_table s + 4 ≤ n → i ≡ min k n → take i (all_steps s work []) ≡ take k (all_steps s work [])
  sync-within n h q = first-places (all_steps s work []) k n (omega (arith, h, sync-length s work [])) q

  written-within : (n : ℕ) → past_table s + 4 ≤ n → i ≡ min k n → written_at s card work i ≡ written_at s card work k
  unfolding written_at synced_at
  written-within n h q = ap (λ (l : List Step). writes_in (take (length (lean (past_table s + 1) card l)) (sync_steps s card work []))) (sync-within n h q)

  counted-within : (b : Bool) → i ≡ min k (past_table s + 5) → counted_at b s card work i ≡ counted_at b s card work k
  unfolding counted_at
  counted-within true q = refl
  counted-within false q = written-within (past_table s + 5) (omega arith) q

  pub sync-places : i ≡ min k (past_table s + 4) → take i (all_steps s work []) ≡ take k (all_steps s work [])
  sync-places q = sync-within _ (omega arith) q

  pub written-places : i ≡ min k (past_table s + 4) → written_at s card work i ≡ written_at s card work k
  written-places q = written-within _ (omega arith) q

  pub down-places : i ≡ min k (past_table s + 5) → take i (all_down s work) ≡ take k (all_down s work)
  unfolding all_down
  down-places q = first-places (all_down s work) k (past_table s + 5) (omega (arith, unmount-length s.worn s work)) q

  pub counted-places : i ≡ min k (past_table s + 5) → counted_at s.worn s card work i ≡ counted_at s.worn s card work k
  counted-places q = counted-within s.worn q

-- ---- the place that a walk ends at: k, or the last where k is past it

module _ (s : Opened) (card work : List ℕ) (k n : ℕ) {r i : ℕ} (q : i ≡ r) (u : ((r ≡ k) × (k ≤ n)) ⊎ ((r ≡ n) × (n ≤ k))) where
  least : r ≡ min k n
  least = ⊎_elim (λ w. omega (arith, w.0, w.1)) (λ w. omega (arith, w.0, w.1)) u

  written_same : past_table s + 4 ≤ n → written_at s card work r ≡ written_at s card work k
  written_same h = written-within s card work k r n h least

  counted_same : (b : Bool) → past_table s + 4 ≤ n → counted_at b s card work r ≡ counted_at b s card work k
  unfolding counted_at
  counted_same true h = refl
  counted_same false h = written_same h

  down-short : past_table s + 5 ≤ n → length (all_down s work) ≤ n
  unfolding all_down
  down-short h = omega (arith, h, unmount-length s.worn s work)

  pub down_to : {f : List ℕ} {w : ℕ} → past_table s + 5 ≤ n → (f ≡ apply_steps (take i (all_down s work)) card) × (w ≡ counted_at s.worn s card work i)
      → (f ≡ apply_steps (take (down_at s card work k) (unmount_steps s card work)) card) × (w ≡ counted_at s.worn s card work k)
  down_to h (a, b) =
      let p = first-places (all_down s work) k n (down-short h) least in
      (down-at s card work k (a ∙ ap (λ (j : ℕ). apply_steps (take j (all_down s work)) card) q ∙ ap (λ (l : List Step). apply_steps l card) p), b ∙ ap (λ (j : ℕ). counted_at s.worn s card work j) q ∙ counted_same s.worn (omega (arith, h)))

-- ---- the steps at the first k places, and all of them

module _ (s : Opened) (card work : List ℕ) (k : ℕ) where
  pub sync-fewer : apply_steps (take (synced_at s card work k) (sync_steps s card work [])) card ≡ apply_steps (take k (all_steps s work [])) card
  sync-fewer = sym (sync_at s card work k refl)

  pub down-fewer : apply_steps (take (down_at s card work k) (unmount_steps s card work)) card ≡ apply_steps (take k (all_down s work)) card
  down-fewer = sym (down-at s card work k refl)

  pub written-whole : past_table s + 4 ≤ k → written_at s card work k ≡ writes_in (sync_steps s card work [])
  written-whole h = (sync-all s card work k h (refl, refl)).0

  pub counted-whole : past_table s + 5 ≤ k → counted_at s.worn s card work k ≡ unmount_count s card work
  counted-whole h = (down-all s card work k h (refl, refl)).0

-- ---- what the functions' proofs use

pub ruleset blocks = (count-sector, word_first, word-sector)

pub ruleset places = (sync-first, sync-past, sync-rest, sync-table, count-first, count_past, count-rest, count-table)

pub ruleset walks = (can-still, steps-turn, written_none, written-turn, sync-places, written-places, sync-fewer)

pub ruleset down_places = (count-rest, counts-live, counts-worn, unmount-worn, unmount-sync, unmount-past, unmount-top, unmount-down)

pub ruleset down_walks = (can-still, steps-turn, counted_none, counted-turn, down-places, counted-places, down-fewer)

pub ruleset whole = (sync-whole, down-whole, written-whole, counted-whole)
