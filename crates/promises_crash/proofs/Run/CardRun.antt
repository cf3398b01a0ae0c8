-- The card as the steps of a call leave it, one by one, is one of the cards that a cut there may leave. Assumes nothing.
use mathlib.Core.Path.{◌≡◌, refl, sym, ◌∙◌, subst}
use mathlib.Core.Bool.{Bool, true, false}
use mathlib.Core.Logic.{◌⊎◌, inl, inr, ⊎_elim, ◌≢◌}
use mathlib.Core.List.{List, [], ◌∷◌, Memᴰ}
use Prim.Native.Nat.{ℕ, zero, suc, ◌+◌, ◌-◌, ◌*◌, ◌≤◌, ◌<◌}
use native.Mathlib.Omega.{arith}
use native.Mathlib.Decide.{ℕ_discrete, dec_le}
use lib.ListN.{length, take}
use Rattle.sectors.specs.Sectors.{sec, set_sec, Step, write, settle, apply_steps, unless, diff_steps}
use Rattle.words.specs.Lists.{eq_list}
use Rattle.words.proofs.EveryMore.{eq_list-eq}
use Rattle.sectors.proofs.SectorLaws.{set_sec-length}
use Rattle.sectors.proofs.FlatLaws.{sec-in, set_here, set_there, image-same}
use Rattle.counts.specs.declared.Geo.{Geo}
use Rattle.counts.proofs.GeoLaws.{Limits, limits}
use Rattle.session.specs.declared.Opened.{Opened}
use Rattle.session.proofs.FitLaws.{Fit}
use Rattle.store.specs.Steps.{set_word, table_sector, sync_steps}
use Rattle.promises_answers.specs.PlainList.{Item}
use Rattle.promises_crash.specs.History.{Pending, written, newest, play, settled}
use Rattle.promises_answers.proofs.Synced.{sync-length, sync-other, inside}
use Rattle.promises_crash.proofs.Play.{written-here, written-there, Top, top-written, landed, top-mem}
use Rattle.promises_crash.proofs.State.{Live}
use Rattle.promises_crash.proofs.Run.SyncRun.{table-old, table-lands}

-- each sector of the card holds one of the values that it may hold
pub record Can (S : ℕ) (p : Pending) (card : List ℕ) : Type 0 where
  pub sized : length card ≡ 512 * S
  pub held : (j : ℕ) → Memᴰ (sec card j) (p j)

-- after each number of steps
abbrev pub CanAll : ℕ → List Step → Pending → List ℕ → Type 0
CanAll S steps p card = (n : ℕ) → Can S (play (take n steps) p) (apply_steps (take n steps) card)

pub top-can : (S : ℕ) (p : Pending) (card : List ℕ) → length card ≡ 512 * S → Top card p → Can S p card
top-can S p card l t = record { sized = l; held = λ j. top-mem (p j) (t j) }

module _ (S : ℕ) where
  pub can-nil : (p : Pending) (card : List ℕ) → Can S p card → CanAll S [] p card
  unfolding play apply_steps
  can-nil p card C zero = C
  can-nil p card C (suc n) = C

  can-written : (i : ℕ) (s : List ℕ) (p : Pending) (card : List ℕ) → i < S → length s ≡ 512 → Can S p card → Can S (written i s p) (set_sec card i s)
  can-written i s p card h m C = record { sized = set_sec-length card i s ∙ C.sized; held = λ j. go j (ℕ_discrete j i) }
    where
      go : (j : ℕ) → Dec (j ≡ i) → Memᴰ (sec (set_sec card i s) j) (written i s p j)
      go j (yes e) = rw (e, written-here i s p) (Memᴰ.head (set_here S card s i C.sized h m))
      go j (no o) = rw (written-there i s p j o, set_there S card s i C.sized h m j o) (C.held j)

  pub can_write : (i : ℕ) (s : List ℕ) (r : List Step) (p : Pending) (card : List ℕ) → i < S → length s ≡ 512 → Can S p card
      → (Can S (written i s p) (set_sec card i s) → CanAll S r (written i s p) (set_sec card i s)) → CanAll S (write i s ∷ r) p card
  unfolding play apply_steps
  can_write i s r p card h m C f zero = C
  can_write i s r p card h m C f (suc n) = f (can-written i s p card h m C) n

  -- all has landed on the card
  pub can-settle : (r : List Step) (p : Pending) (card : List ℕ) → Can S p card → CanAll S r (λ j. newest (p j)) card → CanAll S (settle ∷ r) p card
  unfolding play apply_steps
  can-settle r p card C f zero = C
  can-settle r p card C f (suc n) = f n

  -- a step that may be left out
  can-unless : (b : Bool) (i : ℕ) (s : List ℕ) (r : List Step) (p : Pending) (card : List ℕ) → i < S → length s ≡ 512 → Can S p card → (b ≡ true → sec card i ≡ s)
      → ((p' : Pending) (card' : List ℕ) → Can S p' card' → (p' ≡ p) ⊎ (p' ≡ written i s p) → sec card' i ≡ s → ((j : ℕ) → j ≢ i → sec card' j ≡ sec card j) → CanAll S r p' card')
      → CanAll S (unless b (write i s) r) p card
  unfolding unless
  can-unless true i s r p card h m C e f = f p card C (inl refl) (e refl) (λ j o. refl)
  can-unless false i s r p card h m C e f =
      can_write i s r p card h m C (λ C'. f (written i s p) (set_sec card i s) C' (inr refl) (set_here S card s i C.sized h m) (λ j o. set_there S card s i C.sized h m j o))

  -- copies of the working image
  pub can-copy : (card₀ work : List ℕ) → length work ≡ 512 * S → (n i : ℕ) (r : List Step) (p : Pending) (card : List ℕ) → i + n ≤ S → Can S p card → Top work p
      → ((j : ℕ) → i ≤ j → sec card j ≡ sec card₀ j)
      → ((p' : Pending) (card' : List ℕ) → Can S p' card' → Top work p' → ((j : ℕ) → i ≤ j → j < i + n → sec card' j ≡ sec work j)
      → ((j : ℕ) → ¬ ((i ≤ j) × (j < i + n)) → sec card' j ≡ sec card j) → CanAll S r p' card')
      → CanAll S (diff_steps card₀ work i n r) p card
  unfolding diff_steps
  can-copy card₀ work l zero i r p card h C t k f = f p card C t (λ j lo hi. absurd (omega arith)) (λ j o. refl)
  can-copy card₀ work l (suc n) i r p card h C t k f =
      let m = sec-in work S i l (omega arith) in
      can-unless (eq_list (sec card₀ i) (sec work i)) i (sec work i) (diff_steps card₀ work (suc i) n r) p card (omega arith) m C (λ q. k i (omega arith) ∙ eq_list-eq _ _ q)
      (λ p₁ c₁ C₁ e₁ h₁ o₁. can-copy card₀ work l n (suc i) r p₁ c₁ (omega arith) C₁ (⊎_elim (λ q. rw q t) (λ q. rw q (top-written work p i t)) e₁)
      (λ j lo. o₁ j (omega arith) ∙ k j (omega arith))
      (λ p' card' C'' t' here there.
      f p' card' C'' t' (λ j lo hi. go card' c₁ h₁ here there j lo hi (ℕ_discrete j i))
      (λ j o. there j (λ q. o (omega (arith, q.0), omega (arith, q.1))) ∙ o₁ j (λ q. o (omega (arith, q), omega (arith, q))))))
    where
      go : (card' c₁ : List ℕ) → sec c₁ i ≡ sec work i → ((j : ℕ) → suc i ≤ j → j < suc i + n → sec card' j ≡ sec work j)
          → ((j : ℕ) → ¬ ((suc i ≤ j) × (j < suc i + n)) → sec card' j ≡ sec c₁ j) → (j : ℕ) → i ≤ j → j < i + suc n → Dec (j ≡ i) → sec card' j ≡ sec work j
      go card' c₁ h₁ here there j lo hi (yes e) = rw e (there i (λ q. omega (arith, q.0)) ∙ h₁)
      go card' c₁ h₁ here there j lo hi (no o) = here j (omega arith) (omega arith)

-- ---- a sync

module _ (s : Opened) (card work : List ℕ) (p : Pending) (m : List Item) (V₀ : Live s card work p m) (F : Fit s work) (live : s.worn ≡ false) where
  abbrev g : Geo
  g = s.geo

  abbrev new_work : List ℕ
  new_work = set_word s.c.0 s.t.0 work

  abbrev ts : ℕ
  ts = table_sector s.c.0

  L : Limits g
  L = limits g F.shape

  wd : length (sec new_work ts) ≡ 512
  wd = sec-in new_work g.s ts (sync-length s work F live) (inside s work F live)

  -- the table sector written over the working image makes it the synced one
  table-written : set_sec work ts (sec new_work ts) ≡ new_work
  table-written = image-same _ new_work g.s (set_sec-length work ts (sec new_work ts) ∙ F.sized) (sync-length s work F live) (λ i l. pick i (ℕ_discrete i ts))
    where
      pick : (i : ℕ) → Dec (i ≡ ts) → sec (set_sec work ts (sec new_work ts)) i ≡ sec new_work i
      pick i (yes e) = rw e (set_here g.s work _ ts F.sized (inside s work F live) wd)
      pick i (no o) = set_there g.s work _ ts F.sized (inside s work F live) wd i o ∙ sym (sync-other s work F live i o)

  top-settled : (img : List ℕ) → Top img (settled img)
  unfolding settled newest
  top-settled img j = refl

  -- after the copies: the card is the working image
  rest : (r : List Step) → CanAll g.s r (settled new_work) new_work → (p₂ : Pending) (c₂ : List ℕ) → Can g.s p₂ c₂ → Top work p₂ → c₂ ≡ work
      → CanAll g.s (settle ∷ write ts (sec new_work ts) ∷ settle ∷ r) p₂ c₂
  rest r f p₂ c₂ C t e =
      can-settle g.s _ p₂ c₂ C
      (subst (λ (x : Pending). CanAll g.s (write ts (sec new_work ts) ∷ settle ∷ r) x c₂) (sym (landed work p₂ t))
      (subst (λ (x : List ℕ). CanAll g.s (write ts (sec new_work ts) ∷ settle ∷ r) (settled work) x) (sym e)
      (can_write g.s ts (sec new_work ts) (settle ∷ r) (settled work) work (inside s work F live) wd (top-can g.s (settled work) work F.sized (top-settled work))
      (λ C'. can-settle g.s r _ _ C'
      (subst (λ (x : Pending). CanAll g.s r x (set_sec work ts (sec new_work ts))) (sym (table-lands s card work p m V₀ F live))
      (subst (λ (x : List ℕ). CanAll g.s r (settled new_work) x) (sym table-written) f))))))

  pub sync-can : (r : List Step) → CanAll g.s r (settled new_work) new_work → CanAll g.s (sync_steps s card work r) p card
  unfolding sync_steps
  sync-can r f =
      can-copy g.s card work F.sized 1 0 _ p card (omega (arith, L.s_low, L.past, L.dir)) (record { sized = V₀.sized; held = V₀.may }) V₀.top (λ j lo. refl)
      (λ p₁ c₁ C₁ t₁ here₁ there₁.
      can-copy g.s card work F.sized (g.s - g.t - 1) (g.t + 1) _ p₁ c₁ (omega (arith, L.s_low, L.past, L.dir)) C₁ t₁ (λ j lo. there₁ j (λ q. omega (arith, q.1)))
      (λ p₂ c₂ C₂ t₂ here₂ there₂.
      rest r f p₂ c₂ C₂ t₂
      (image-same c₂ work g.s C₂.sized F.sized
      (λ i l. body c₁ c₂ here₁ there₁ here₂ there₂ i l (dec_le i g.t) (ℕ_discrete i 0)))))
    where
      body : (c₁ c₂ : List ℕ) → ((j : ℕ) → 0 ≤ j → j < 0 + 1 → sec c₁ j ≡ sec work j) → ((j : ℕ) → ¬ ((0 ≤ j) × (j < 0 + 1)) → sec c₁ j ≡ sec card j)
          → ((j : ℕ) → g.t + 1 ≤ j → j < g.t + 1 + (g.s - g.t - 1) → sec c₂ j ≡ sec work j)
          → ((j : ℕ) → ¬ ((g.t + 1 ≤ j) × (j < g.t + 1 + (g.s - g.t - 1))) → sec c₂ j ≡ sec c₁ j)
          → (i : ℕ) → i < g.s → Dec (i ≤ g.t) → Dec (i ≡ 0) → sec c₂ i ≡ sec work i
      body c₁ c₂ h₁ o₁ h₂ o₂ i l (yes a) (yes z) = o₂ i (λ q. omega (arith, q.0)) ∙ h₁ i (omega arith) (omega arith)
      body c₁ c₂ h₁ o₁ h₂ o₂ i l (yes a) (no z) = o₂ i (λ q. omega (arith, q.0)) ∙ o₁ i (λ q. omega (arith, q.1)) ∙ table-old s card work p m V₀ F live i a
      body c₁ c₂ h₁ o₁ h₂ o₂ i l (no a) d = h₂ i (omega arith) (omega (arith, L.s_low, L.past, L.dir))
