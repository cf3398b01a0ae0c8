-- What stands at place number k of sync and of unmount: sector 0, the sectors past the table, the table sector, sector 0 again. Assumes nothing.
use mathlib.Core.Path.{◌≡◌, refl, sym, ap, ◌∙◌}
use mathlib.Core.Bool.{Bool, true, false}
use mathlib.Core.Logic.{◌≢◌}
use mathlib.Core.List.{List, []}
use Prim.Native.Nat.{ℕ, zero, suc, ◌+◌, ◌-◌, ◌≤◌, ◌<◌}
use native.Mathlib.Omega.{arith}
use native.Mathlib.Decide.{ℕ_discrete, dec_lt, dec_le}
use borrow.Author.Tests.{eq-eqb, ne_eqb}
use lib.ListN.{length}
use Rattle.sectors.specs.Sectors.{sec, set_sec, Step, apply_steps, apply_step, copy_steps}
use Rattle.sectors.proofs.SectorLaws.{step-none, copy-length, copy_step, copy-behind}
use Rattle.counts.specs.Stamps.{max_tx}
use Rattle.session.specs.declared.Opened.{Opened}
use Rattle.store.specs.Steps.{set_word, table_sector, past_table, table_steps, all_steps, at_top, down_steps, all_down_by, all_down}

-- ---- sync

pub sync-length : (s : Opened) (work : List ℕ) (r : List Step) → length (all_steps s work r) ≡ past_table s + 4 + length r
unfolding all_steps
sync-length s work r =
    copy-length work 0 1 _ ∙ ap (λ (n : ℕ). 1 + n) (copy-length work (s.geo.t + 1) (past_table s) (table_steps s work r)) ∙ omega arith

module _ (s : Opened) (work card : List ℕ) (r : List Step) where
  pub sync-first : {k : ℕ} → k ≡ 0 → set_sec card 0 (sec work 0) ≡ apply_step k (all_steps s work r) card
  unfolding all_steps
  sync-first z = rw z (sym (copy_step work 0 1 0 _ card (omega arith)))

  -- behind sector 0, and behind the sectors past the table
  sync-second : (j : ℕ) → apply_step (1 + j) (all_steps s work r) card ≡ apply_step j (copy_steps work (s.geo.t + 1) (past_table s) (table_steps s work r)) card
  unfolding all_steps
  sync-second j = copy-behind work 0 1 j _ card

  sync-behind : (j : ℕ) → apply_step (1 + (past_table s + j)) (all_steps s work r) card ≡ apply_step j (table_steps s work r) card
  sync-behind j = sync-second (past_table s + j) ∙ copy-behind work (s.geo.t + 1) (past_table s) j _ card

  pub sync-past : {k : ℕ} → k ≢ 0 → k ≤ past_table s → set_sec card (s.geo.t + k) (sec work (s.geo.t + k)) ≡ apply_step k (all_steps s work r) card
  sync-past {k} n h =
      let one : 1 + (k - 1) ≡ k = omega arith in
      let at : s.geo.t + 1 + (k - 1) ≡ s.geo.t + k = omega arith in
      sym (rw (one, at) at (sync-second (k - 1) ∙ copy_step work (s.geo.t + 1) (past_table s) (k - 1) _ card (omega arith)))

  pub sync-table : {k : ℕ} → k ≡ past_table s + 2
      → set_sec card (table_sector s.c.0) (sec (set_word s.c.0 s.t.0 work) (table_sector s.c.0)) ≡ apply_step k (all_steps s work r) card
  unfolding apply_steps apply_step
  sync-table {k} e = let q : 1 + (past_table s + 1) ≡ k = omega arith in sym (rw q at (sync-behind 1))

  -- the barriers
  sync-bar : (j : ℕ) → j ≢ 1 → j < 3 → apply_step j (table_steps s work r) card ≡ card
  unfolding apply_steps apply_step
  sync-bar zero n h = refl
  sync-bar (suc zero) n h = absurd (n refl)
  sync-bar (suc (suc zero)) n h = refl
  sync-bar (suc (suc (suc j))) n h = absurd (omega arith)

  sync-still : {k : ℕ} → past_table s < k → k ≢ past_table s + 2 → k < past_table s + 4 → apply_step k (all_steps s work r) card ≡ card
  sync-still {k} l n h =
      let q : 1 + (past_table s + (k - past_table s - 1)) ≡ k = omega arith in
      rw q at (sync-behind (k - past_table s - 1)) ∙ sync-bar (k - past_table s - 1) (λ e. n (omega arith)) (omega arith)

  -- steps behind a sync
  sync-then : (j : ℕ) → apply_step (past_table s + 4 + j) (all_steps s work r) card ≡ apply_step j r card
  unfolding apply_step
  sync-then j =
      let q : 1 + (past_table s + suc (suc (suc j))) ≡ past_table s + 4 + j = omega arith in
      rw q at (sync-behind (suc (suc (suc j))))

module _ (s : Opened) (work card : List ℕ) where
  -- a step that writes nothing: a barrier, or none
  pub sync-rest : {k : ℕ} → past_table s < k → k ≢ past_table s + 2 → card ≡ apply_step k (all_steps s work []) card
  sync-rest {k} l n = go (dec_lt k (past_table s + 4))
    where
      go : Dec (k < past_table s + 4) → card ≡ apply_step k (all_steps s work []) card
      go (yes h) = sym (sync-still s work card [] l n h)
      go (no h) = sym (step-none (all_steps s work []) k card (omega (arith, sync-length s work [])))

  -- the steps of a sync are the same whatever stands behind them
  sync-same : (r q : List Step) {k : ℕ} → k < past_table s + 4 → apply_step k (all_steps s work r) card ≡ apply_step k (all_steps s work q) card
  sync-same r q {k} h = go (ℕ_discrete k 0) (dec_le k (past_table s)) (ℕ_discrete k (past_table s + 2))
    where
      go : Dec (k ≡ 0) → Dec (k ≤ past_table s) → Dec (k ≡ past_table s + 2) → apply_step k (all_steps s work r) card ≡ apply_step k (all_steps s work q) card
      go (yes z) l t = sym (sync-first s work card r z) ∙ sync-first s work card q z
      go (no z) (yes l) t = sym (sync-past s work card r z l) ∙ sync-past s work card q z l
      go (no z) (no l) (yes t) = sym (sync-table s work card r t) ∙ sync-table s work card q t
      go (no z) (no l) (no t) = sync-still s work card r (omega arith) t h ∙ sym (sync-still s work card q (omega arith) t h)

-- ---- unmount

-- "Unmount syncs unless worn"
pub unmount-worn : (s : Opened) (work : List ℕ) (k : ℕ) (card : List ℕ) → s.worn ≡ true → card ≡ apply_step k (all_down s work) card
unfolding all_down all_down_by apply_step
unmount-worn s work k card h = rw h

down-length : (b : Bool) (s : Opened) (work : List ℕ) → length (down_steps b s work) ≤ 1
unfolding down_steps
down-length true s work = omega arith
down-length false s work = omega arith

pub unmount-length : (b : Bool) (s : Opened) (work : List ℕ) → length (all_down_by b s work) ≤ past_table s + 5
unfolding all_down_by
unmount-length true s work = omega arith
unmount-length false s work =
    let r : List Step = down_steps (at_top s) s (set_word s.c.0 s.t.0 work) in
    omega (arith, sync-length s work r, down-length (at_top s) s (set_word s.c.0 s.t.0 work))

module _ (s : Opened) (work : List ℕ) (k : ℕ) (card : List ℕ) (live : s.worn ≡ false) where
  live-step : {b : Bool} → at_top s ≡ b
      → apply_step k (all_steps s work (down_steps b s (set_word s.c.0 s.t.0 work))) card ≡ apply_step k (all_down s work) card
  unfolding all_down all_down_by
  live-step q =
      sym
      (ap (λ (b : Bool). apply_step k (all_down_by b s work) card) live
      ∙ ap (λ (b : Bool). apply_step k (all_steps s work (down_steps b s (set_word s.c.0 s.t.0 work))) card) q)

  -- the steps of sync
  pub unmount-sync : {f : List ℕ} → k < past_table s + 4 → f ≡ apply_step k (all_steps s work []) card → f ≡ apply_step k (all_down s work) card
  unmount-sync h e = e ∙ sync-same s work card [] _ h ∙ live-step refl

  -- then sector 0, once, unless the session becomes worn
  pub unmount-past : past_table s + 4 < k → card ≡ apply_step k (all_down s work) card
  unfolding all_down
  unmount-past h = sym (step-none (all_down_by s.worn s work) k card (omega (arith, unmount-length s.worn s work)))

  pub unmount-top : past_table s + 4 ≤ k → s.t.0 ≡ max_tx → card ≡ apply_step k (all_down s work) card
  unfolding at_top down_steps
  unmount-top h e = sym (step-none (all_steps s work []) k card (omega (arith, sync-length s work []))) ∙ live-step (eq-eqb _ _ e)

  pub unmount-down : {f : List ℕ} → k ≡ past_table s + 4 → s.t.0 ≢ max_tx → f ≡ apply_steps (down_steps false s (set_word s.c.0 s.t.0 work)) card
      → f ≡ apply_step k (all_down s work) card
  unfolding at_top down_steps apply_step
  unmount-down z n e =
      let q : past_table s + 4 + 0 ≡ k = omega arith in
      e ∙ sym (rw q at (sync-then s work card (down_steps false s (set_word s.c.0 s.t.0 work)) 0)) ∙ live-step (ne_eqb _ _ n)
