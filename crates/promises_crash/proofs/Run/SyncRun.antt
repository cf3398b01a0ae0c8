-- A sync, step by step: at each cut the base or the present view, at its end the present view. Assumes nothing.
use Rattle.std.specs.Prelude.{Some}
use mathlib.Core.Path.{◌≡◌, refl, sym, ap, ◌∙◌, fun_ext, subst}
use mathlib.Core.Bool.{Bool, true, false}
use mathlib.Core.List.{List, ◌∷◌, Memᴰ}
use mathlib.Core.Logic.{◌⊎◌, inl, inr, ⊎_elim, ◌≢◌}
use Prim.Native.Nat.{ℕ, ◌+◌, ◌-◌, ◌*◌, ◌≤◌, ◌<◌}
use native.Mathlib.Omega.{arith}
use native.Mathlib.Decide.{ℕ_discrete, dec_le}
use lib.ListN.{length}
use Rattle.sectors.specs.Sectors.{sec, set_sec, Step, write, settle, apply_steps, copy_steps}
use Rattle.sectors.proofs.SectorLaws.{set_sec-length}
use Rattle.sectors.proofs.FlatLaws.{sec-in, set_here, set_there, image-same}
use Rattle.counts.specs.declared.Geo.{Geo}
use Rattle.counts.proofs.GeoLaws.{Limits, limits}
use Rattle.session.specs.declared.Opened.{Opened}
use Rattle.session.proofs.FitLaws.{Fit}
use Rattle.store.specs.Steps.{set_word, table_sector, sync_steps, all_steps}
use Rattle.store.proofs.SyncFewer.{sync-same-card}
use Rattle.promises_answers.specs.PlainList.{Item, shown_in}
use Rattle.promises_crash.specs.History.{Pending, written, newest, play, settled, Left, Reads}
use Rattle.promises_answers.proofs.Keep.{Keeps}
use Rattle.promises_answers.proofs.Ready.{own_of}
use Rattle.promises_answers.proofs.Synced.{sync-length, sync-other, inside, sync-geo, sync-sound, sync-shows}
use Rattle.promises_crash.proofs.Play.{written-here, written-there, written-cases, mem-one, top-mem, Every, every-write, every-settle, Top, every-copy, play-copy, landed, Copied, copied}
use Rattle.promises_crash.proofs.State.{Good, calm-reads, AtRest, good-rests, Live, keeps-reads}

-- what a cut inside may read
abbrev pub Either : Opened → List ℕ → List Item → Pending → Type 0
Either s work m p = (card : List ℕ) → Left p (512 * s.geo.s) card → Reads card m ⊎ (◌≡◌ {A = Bool} true true × Reads card (shown_in (Some s) work))

module _ (s : Opened) (card work : List ℕ) (p : Pending) (m : List Item) (V₀ : Live s card work p m) (F : Fit s work) (live : s.worn ≡ false) where
  abbrev g : Geo
  g = s.geo

  abbrev pub new_work : List ℕ
  new_work = set_word s.c.0 s.t.0 work

  abbrev ts : ℕ
  ts = table_sector s.c.0

  abbrev KeepAll : Pending → Type 0
  KeepAll p' = (i : ℕ) (x : List ℕ) → Memᴰ x (p' i) → Keeps g (own_of s) (sec V₀.img₀) i x

  keeps-work : (i : ℕ) → Keeps g (own_of s) (sec V₀.img₀) i (sec work i)
  keeps-work i = V₀.keeps i (sec work i) (top-mem (p i) (V₀.top i))

  keep-written : (p' : Pending) (j : ℕ) → KeepAll p' → KeepAll (written j (sec work j) p')
  keep-written p' j h i x y = ⊎_elim (λ q. rw (q.1, sym q.0) (keeps-work i)) (λ q. h i x q) (written-cases j (sec work j) p' i x y)

  pub old-reads : (p' : Pending) → KeepAll p' → Either s work m p'
  old-reads p' h k x = inl (rw (sym V₀.shows) (keeps-reads s V₀.img₀ p' V₀.base V₀.geo h k x))

  keep-settled : KeepAll (settled work)
  unfolding settled
  keep-settled i x y = rw (mem-one y) (keeps-work i)

  pub new-good : Good g new_work (shown_in (Some s) work)
  new-good =
      record { sized = sync-length s work F live; geo = sync-geo s work F live; ok = F.shape; good = sync-sound s work F live; shows = sync-shows s work F live }

  pub new-rests : AtRest g new_work (settled new_work) (shown_in (Some s) work)
  new-rests = good-rests g new_work _ new-good

  pub new-reads : Either s work m (settled new_work)
  new-reads k x = inr (refl, calm-reads g new_work (settled new_work) _ new-rests.calm k x)

  -- the table sector written, and not yet landed
  both-reads : Either s work m (written ts (sec new_work ts) (settled work))
  both-reads k x = go (written-cases ts (sec new_work ts) (settled work) ts (sec k ts) (x.held ts (omega (arith, inside s work F live))))
    where
      rest : (i : ℕ) → 512 * i < 512 * g.s → i ≢ ts → Memᴰ (sec k i) (settled work i)
      rest i l o = rw (written-there ts (sec new_work ts) (settled work) i o) at (x.held i l)

      go : ((ts ≡ ts) × (sec k ts ≡ sec new_work ts)) ⊎ Memᴰ (sec k ts) (settled work ts) → Reads k m ⊎ (◌≡◌ {A = Bool} true true × Reads k (shown_in (Some s) work))
      go (inl q) = new-reads k (record { sized = x.sized; held = λ i l. all i l (ℕ_discrete i ts) })
        where
          all : (i : ℕ) → 512 * i < 512 * g.s → Dec (i ≡ ts) → Memᴰ (sec k i) (settled new_work i)
          all i l (yes e) = unfold settled in rw e (Memᴰ.head q.1)
          all i l (no o) = unfold settled in Memᴰ.head (mem-one (rest i l o) ∙ sym (sync-other s work F live i o))
      go (inr q) = old-reads (settled work) keep-settled k (record { sized = x.sized; held = λ i l. all i l (ℕ_discrete i ts) })
        where
          all : (i : ℕ) → 512 * i < 512 * g.s → Dec (i ≡ ts) → Memᴰ (sec k i) (settled work i)
          all i l (yes e) = rw e q
          all i l (no o) = rest i l o

  pub table-lands : ◌≡◌ {A = Pending} (λ i. newest (written ts (sec new_work ts) (settled work) i)) (settled new_work)
  table-lands = fun_ext (λ i. go i (ℕ_discrete i ts))
    where
      go : (i : ℕ) → Dec (i ≡ ts) → newest (written ts (sec new_work ts) (settled work) i) ≡ settled new_work i
      go i (yes e) = rw (e, written-here ts (sec new_work ts) (settled work)) (unfold newest settled in refl)
      go i (no o) = rw (written-there ts (sec new_work ts) (settled work) i o) (unfold newest settled in (rw (sync-other s work F live i o)))

  pub sync-every : (r : List Step) → Every (Either s work m) r (settled new_work) → Every (Either s work m) (sync_steps s card work r) p
  unfolding sync_steps
  sync-every r h =
      every-copy (Either s work m) KeepAll old-reads card work keep-written 1 0 _ p V₀.keeps V₀.top
      (λ p₁ k₁ t₁.
      every-copy (Either s work m) KeepAll old-reads card work keep-written (g.s - g.t - 1) (g.t + 1) _ p₁ k₁ t₁
      (λ p₂ k₂ t₂.
      every-settle (Either s work m) _ p₂ (old-reads p₂ k₂)
      (subst (λ (x : Pending). Every (Either s work m) (write ts (sec new_work ts) ∷ settle ∷ r) x) (sym (landed work p₂ t₂))
      (every-write (Either s work m) ts (sec new_work ts) _ (settled work) (old-reads (settled work) keep-settled)
      (every-settle (Either s work m) r _ both-reads (subst (λ (x : Pending). Every (Either s work m) r x) (sym table-lands) h))))))

  pub sync-play : (r : List Step) → play (sync_steps s card work r) p ≡ play r (settled new_work)
  unfolding sync_steps
  sync-play r =
      play-copy (Either s work m) KeepAll old-reads card work keep-written 1 0 _ p _ V₀.keeps V₀.top
      (λ p₁ k₁ t₁. play-copy (Either s work m) KeepAll old-reads card work keep-written (g.s - g.t - 1) (g.t + 1) _ p₁ _ k₁ t₁ (λ p₂ k₂ t₂. fin p₂ t₂))
    where
      fin : (p₂ : Pending) → Top work p₂ → play (settle ∷ write ts (sec new_work ts) ∷ settle ∷ r) p₂ ≡ play r (settled new_work)
      fin p₂ t₂ =
          unfold play in
          (ap (λ (x : Pending). play r (λ i. newest (written ts (sec new_work ts) x i))) (landed work p₂ t₂) ∙ ap (λ (x : Pending). play r x) table-lands)

  -- ---- the card itself

  -- the table of the card is that of the working image before the sync
  pub table-old : (i : ℕ) → i ≤ g.t → sec card i ≡ sec work i
  table-old i h = (V₀.keeps i (sec card i) (V₀.may i)).fixed h ∙ sym ((keeps-work i).fixed h)

  -- the steps of a sync leave the working image with word c set, and go on from it
  pub sync-card : (r : List Step) → apply_steps (sync_steps s card work r) card ≡ apply_steps r new_work
  unfolding all_steps
  sync-card r = sync-same-card s card work r ∙ one (copied g.s 1 0 work card _ V₀.sized F.sized (omega (arith, L.s_low, L.past, L.dir)))
    where
      L : Limits g
      L = limits g F.shape

      tail : List Step
      tail = settle ∷ write ts (sec new_work ts) ∷ settle ∷ r

      two : (A : Copied g.s 0 1 work card (copy_steps work (g.t + 1) (g.s - g.t - 1) tail) (apply_steps (all_steps s work r) card))
          → Copied g.s (g.t + 1) (g.s - g.t - 1) work A.card' tail (apply_steps (copy_steps work (g.t + 1) (g.s - g.t - 1) tail) A.card')
          → apply_steps (all_steps s work r) card ≡ apply_steps r new_work
      two A B = A.ends ∙ B.ends ∙ (unfold apply_steps in (ap (λ (x : List ℕ). apply_steps r x) last))
        where
          wd : length (sec new_work ts) ≡ 512
          wd = sec-in new_work g.s ts (sync-length s work F live) (inside s work F live)

          body : (i : ℕ) → i < g.s → Dec (i ≤ g.t) → Dec (i ≡ 0) → sec B.card' i ≡ sec work i
          body i l (yes a) (yes z) = B.there i (λ q. omega (arith, q.0)) ∙ A.here i (omega arith) (omega arith)
          body i l (yes a) (no z) = B.there i (λ q. omega (arith, q.0)) ∙ A.there i (λ q. omega (arith, q.1)) ∙ table-old i a
          body i l (no a) d = B.here i (omega arith) (omega arith)

          pick : (i : ℕ) → i < g.s → Dec (i ≡ ts) → sec (set_sec B.card' ts (sec new_work ts)) i ≡ sec new_work i
          pick i l (yes e) = rw e (set_here g.s B.card' _ ts B.sized (inside s work F live) wd)
          pick i l (no o) =
              set_there g.s B.card' _ ts B.sized (inside s work F live) wd i o ∙ body i l (dec_le i g.t) (ℕ_discrete i 0) ∙ sym (sync-other s work F live i o)

          last : set_sec B.card' ts (sec new_work ts) ≡ new_work
          last =
              image-same _ new_work g.s (set_sec-length B.card' ts (sec new_work ts) ∙ B.sized) (sync-length s work F live) (λ i l. pick i l (ℕ_discrete i ts))

      one : Copied g.s 0 1 work card (copy_steps work (g.t + 1) (g.s - g.t - 1) tail) (apply_steps (all_steps s work r) card) → apply_steps (all_steps s work r) card ≡ apply_steps r new_work
      one A = two A (copied g.s (g.s - g.t - 1) (g.t + 1) work A.card' tail A.sized F.sized (omega (arith, L.s_low, L.past, L.dir)))
