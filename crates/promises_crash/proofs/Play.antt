-- What each sector may hold, step by step through the writes of a call, and the card itself. Assumes nothing.
use mathlib.Core.Path.{◌≡◌, refl, ◌∙◌, fun_ext}
use mathlib.Core.Bool.{Bool, true, false}
use mathlib.Core.List.{List, [], ◌∷◌, Memᴰ}
use mathlib.Core.Logic.{◌⊎◌, inl, inr, ⊎_elim, ◌≢◌}
use Prim.Native.Nat.{ℕ, zero, suc, ◌+◌, ◌*◌, ◌≤◌, ◌<◌}
use native.Mathlib.Omega.{arith}
use native.Mathlib.Decide.{ℕ_discrete}
use borrow.Author.Tests.{eq-eqb, ne_eqb}
use lib.ListN.{length, take}
use Rattle.sectors.specs.Sectors.{sec, set_sec, Step, write, settle, apply_steps, copy_steps, unless, diff_steps}
use Rattle.sectors.proofs.SectorLaws.{set_sec-length}
use Rattle.sectors.proofs.FlatLaws.{sec-in, set_here, set_there}
use Rattle.promises_crash.specs.History.{Pending, written, newest, play, settled}

pub written-here : (i : ℕ) (s : List ℕ) (p : Pending) → written i s p i ≡ s ∷ p i
unfolding written
written-here i s p = rw (eq-eqb i i refl)

pub written-there : (i : ℕ) (s : List ℕ) (p : Pending) (j : ℕ) → j ≢ i → written i s p j ≡ p j
unfolding written
written-there i s p j o = rw (ne_eqb j i o)

pub mem-cases : {x y : List ℕ} {l : List (List ℕ)} → Memᴰ x (y ∷ l) → (x ≡ y) ⊎ Memᴰ x l
mem-cases (Memᴰ.head e) = inl e
mem-cases (Memᴰ.tail m) = inr m

pub mem-one : {x y : List ℕ} → Memᴰ x (y ∷ []) → x ≡ y
mem-one (Memᴰ.head e) = e
mem-one (Memᴰ.tail m) = elim m [ ]

pub written-cases : (i : ℕ) (s : List ℕ) (p : Pending) (j : ℕ) (x : List ℕ) → Memᴰ x (written i s p j) → ((j ≡ i) × (x ≡ s)) ⊎ Memᴰ x (p j)
written-cases i s p j x m = go (ℕ_discrete j i)
  where
    go : Dec (j ≡ i) → ((j ≡ i) × (x ≡ s)) ⊎ Memᴰ x (p j)
    go (yes e) = ⊎_elim (λ q. inl (e, q)) (λ q. inr (rw e q)) (mem-cases (rw (e, written-here i s p) at m))
    go (no o) = inr (rw (written-there i s p j o) at m)

pub newest-mem : (l : List (List ℕ)) {x : List ℕ} → Memᴰ x (newest l) → Memᴰ x l
unfolding newest
newest-mem [] m = m
newest-mem (y ∷ l) m = Memᴰ.head (mem-one m)

-- the newest value stands among the values
pub top-mem : (l : List (List ℕ)) {x : List ℕ} → newest l ≡ x ∷ [] → Memᴰ x l
top-mem l {x} e = newest-mem l (rw e (Memᴰ.head refl))

-- ---- every cut between the steps

abbrev pub Every : (Pending → Type 0) → List Step → Pending → Type 0
Every Q steps p = (n : ℕ) → Q (play (take n steps) p)

module _ (Q : Pending → Type 0) where
  pub every-nil : (p : Pending) → Q p → Every Q [] p
  unfolding play
  every-nil p h zero = h
  every-nil p h (suc n) = h

  pub every-write : (i : ℕ) (s : List ℕ) (r : List Step) (p : Pending) → Q p → Every Q r (written i s p) → Every Q (write i s ∷ r) p
  unfolding play
  every-write i s r p h t zero = h
  every-write i s r p h t (suc n) = t n

  pub every-settle : (r : List Step) (p : Pending) → Q p → Every Q r (λ j. newest (p j)) → Every Q (settle ∷ r) p
  unfolding play
  every-settle r p h t zero = h
  every-settle r p h t (suc n) = t n

-- the newest value of each sector is that of an image
abbrev pub Top : List ℕ → Pending → Type 0
Top work p = (j : ℕ) → newest (p j) ≡ sec work j ∷ []

pub top-written : (work : List ℕ) (p : Pending) (i : ℕ) → Top work p → Top work (written i (sec work i) p)
top-written work p i h j = go (ℕ_discrete j i)
  where
    go : Dec (j ≡ i) → newest (written i (sec work i) p j) ≡ sec work j ∷ []
    go (yes e) = rw (e, written-here i (sec work i) p) (unfold newest in refl)
    go (no o) = rw (written-there i (sec work i) p j o) (h j)

-- copies of the working image to a card, under an invariant I that they keep
module _ (Q I : Pending → Type 0) (sub : (p : Pending) → I p → Q p) (card work : List ℕ) (keep : (p : Pending) (i : ℕ) → I p → I (written i (sec work i) p)) where
  every-unless : (b : Bool) (i : ℕ) (s : List ℕ) (r : List Step) (p : Pending) → Q p → Every Q r p → Every Q r (written i s p) → Every Q (unless b (write i s) r) p
  unfolding unless
  every-unless true i s r p q x y = x
  every-unless false i s r p q x y = every-write Q i s r p q y

  play-unless : (b : Bool) (i : ℕ) (s : List ℕ) (r : List Step) (p p₂ : Pending) → play r p ≡ p₂ → play r (written i s p) ≡ p₂ → play (unless b (write i s) r) p ≡ p₂
  unfolding unless play
  play-unless true i s r p p₂ x y = x
  play-unless false i s r p p₂ x y = y

  pub every-copy : (n i : ℕ) (r : List Step) (p : Pending) → I p → Top work p → ((p' : Pending) → I p' → Top work p' → Every Q r p') → Every Q (diff_steps card work i n r) p
  unfolding diff_steps
  every-copy zero i r p q h f = f p q h
  every-copy (suc n) i r p q h f =
      every-unless _ i (sec work i) (diff_steps card work (suc i) n r) p (sub p q) (every-copy n (suc i) r p q h f) (every-copy n (suc i) r (written i (sec work i) p) (keep p i q) (top-written work p i h) f)

  pub play-copy : (n i : ℕ) (r : List Step) (p p₂ : Pending) → I p → Top work p → ((p' : Pending) → I p' → Top work p' → play r p' ≡ p₂) → play (diff_steps card work i n r) p ≡ p₂
  unfolding diff_steps
  play-copy zero i r p p₂ q h f = f p q h
  play-copy (suc n) i r p p₂ q h f =
      play-unless _ i (sec work i) (diff_steps card work (suc i) n r) p p₂ (play-copy n (suc i) r p p₂ q h f) (play-copy n (suc i) r (written i (sec work i) p) p₂ (keep p i q) (top-written work p i h) f)

-- all has landed
pub landed : (work : List ℕ) (p : Pending) → Top work p → ◌≡◌ {A = Pending} (λ j. newest (p j)) (settled work)
unfolding settled
landed work p h = fun_ext h

-- ---- the card itself

pub record Copied (S i n : ℕ) (work card : List ℕ) (r : List Step) (out : List ℕ) : Type 0 where
  pub card' : List ℕ
  pub sized : length card' ≡ 512 * S
  pub ends : out ≡ apply_steps r card'
  pub here : (j : ℕ) → i ≤ j → j < i + n → sec card' j ≡ sec work j
  pub there : (j : ℕ) → ¬ ((i ≤ j) × (j < i + n)) → sec card' j ≡ sec card j

pub copied : (S n i : ℕ) (work card : List ℕ) (r : List Step) → length card ≡ 512 * S → length work ≡ 512 * S → i + n ≤ S
    → Copied S i n work card r (apply_steps (copy_steps work i n r) card)
unfolding copy_steps apply_steps
copied S zero i work card r l w h = record { card' = card; sized = l; ends = refl; here = λ j lo hi. absurd (omega arith); there = λ j o. refl }
copied S (suc n) i work card r l w h =
    let m = sec-in work S i w (omega arith) in
    let c = copied S n (suc i) work (set_sec card i (sec work i)) r (set_sec-length card i (sec work i) ∙ l) w (omega arith) in
    record {
      card' = c.card';
      sized = c.sized;
      ends = c.ends;
      here = λ j lo hi. go c m j lo hi (ℕ_discrete j i);
      there = λ j o. c.there j (λ q. o (omega (arith, q.0), omega (arith, q.1))) ∙ set_there S card _ i l (omega arith) m j (λ q. o (omega (arith, q), omega (arith, q)));
    }
  where
    go : (c : Copied S (suc i) n work (set_sec card i (sec work i)) r (apply_steps (copy_steps work (suc i) n r) (set_sec card i (sec work i)))) → length (sec work i) ≡ 512
        → (j : ℕ) → i ≤ j → j < i + suc n → Dec (j ≡ i) → sec c.card' j ≡ sec work j
    go c m j lo hi (yes e) = rw e (c.there i (λ q. omega (arith, q.0)) ∙ set_here S card _ i l (omega arith) m)
    go c m j lo hi (no o) = c.here j (omega arith) (omega arith)
