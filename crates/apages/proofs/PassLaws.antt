-- What an index that passes says, by name, and which page it shows. Assumes nothing.
use mathlib.Core.Path.{◌≡◌, refl}
use mathlib.Core.Logic.{◌⊎◌, inl, inr, ⊎_elim}
use mathlib.Core.Bool.{Bool, true, false, cond, ◌&&◌}
use mathlib.Core.List.{List}
use Prim.Native.Nat.{ℕ, zero, suc, ◌+◌, ◌*◌, ◌≤◌, ◌<◌}
use native.Mathlib.Omega.{arith}
use native.Mathlib.Decide.{ℕ_discrete}
use Rattle.counts.specs.Geometry.{g_p, g_dir, first_page, pair_low, pair_high}
use Rattle.counts.proofs.TableLaws.{dir-is}
use borrow.Author.Tests.{eqb-true, eq-eqb}
use lib.Dec.{eqb}
use lib.ListN.{drop}
use Rattle.words.specs.Lists.{every, is_zero}
use Rattle.words.specs.Bytes.{word_at}
use Rattle.words.proofs.BoolLaws.{both, join, or_cases, or-intro}
use Rattle.counts.specs.declared.Geo.{Geo}
use Rattle.counts.specs.Stamps.{stamp_of, alive, showing, stamp_ok, dead_below}
use Rattle.apages.specs.Index.{group_of, pair_ok, group_ok, every_group, index_ok, shown_page}

-- A and B are the two of pair p, in either order
abbrev pub Pair : Geo → ℕ → ℕ → ℕ → Type 0
Pair g p a b = ((a ≡ pair_low g p) × (b ≡ pair_high g p)) ⊎ ((a ≡ pair_high g p) × (b ≡ pair_low g p))

pub pair_values : (g : Geo) (p a b : ℕ) → pair_ok g p a b ≡ true → Pair g p a b
unfolding pair_ok
pair_values g p a b h =
    ⊎_elim (λ q. let (x, y) = both (eqb a (pair_low g p)) _ q in inl (eqb-true _ _ x, eqb-true _ _ y))
    (λ q. let (x, y) = both (eqb a (pair_high g p)) _ q in inr (eqb-true _ _ x, eqb-true _ _ y))
    (or_cases (eqb a (pair_low g p) && eqb b (pair_high g p)) _ h)

pub pair-intro : (g : Geo) (p a b : ℕ) → Pair g p a b → pair_ok g p a b ≡ true
unfolding pair_ok
pair-intro g p a b (inl q) = or-intro (eqb a (pair_low g p) && eqb b (pair_high g p)) _ (inl (join _ _ (eq-eqb _ _ q.0) (eq-eqb _ _ q.1)))
pair-intro g p a b (inr q) = or-intro (eqb a (pair_low g p) && eqb b (pair_high g p)) _ (inr (join _ _ (eq-eqb _ _ q.0) (eq-eqb _ _ q.1)))

pub pair-swap : (g : Geo) (p a b : ℕ) → pair_ok g p a b ≡ true → pair_ok g p b a ≡ true
pair-swap g p a b h = pair-intro g p b a (⊎_elim (λ q. inr (q.1, q.0)) (λ q. inl (q.1, q.0)) (pair_values g p a b h))

pub record GroupPasses (g : Geo) (bound : ℕ) (tab : List ℕ) (p : ℕ) (x : List ℕ) : Type 0 where
  pub stamp : stamp_ok g (stamp_of x) ≡ true
  pub dead : dead_below bound tab (stamp_of x) ≡ true
  pub pair : pair_ok g p (word_at x 8) (word_at x 12) ≡ true

pub group-inv : (g : Geo) (bound : ℕ) (tab : List ℕ) (p : ℕ) (x : List ℕ) → group_ok g bound tab p x ≡ true → GroupPasses g bound tab p x
unfolding group_ok
group-inv g bound tab p x h =
    let (r, d) = both _ (pair_ok g p (word_at x 8) (word_at x 12)) h in
    let (a, b) = both (stamp_ok g (stamp_of x)) _ r in
    record { stamp = a; dead = b; pair = d }

pub group-intro : (g : Geo) (bound : ℕ) (tab : List ℕ) (p : ℕ) (x : List ℕ) → GroupPasses g bound tab p x → group_ok g bound tab p x ≡ true
unfolding group_ok
group-intro g bound tab p x P = join _ _ (join _ _ P.stamp P.dead) P.pair

-- ---- a test of every group

module _ (f : ℕ → List ℕ → Bool) (ix : List ℕ) where
  groups-step : (q p : ℕ) → f q (group_of ix q) ≡ true → (suc q ≤ p → f p (group_of ix p) ≡ true) → q ≤ p → Dec (p ≡ q) → f p (group_of ix p) ≡ true
  groups-step q p w h lo (yes e) = rw e w
  groups-step q p w h lo (no o) = h (omega arith)

  groups-from : (n q : ℕ) → every_group f ix q n ≡ true → (p : ℕ) → q ≤ p → p < q + n → f p (group_of ix p) ≡ true
  unfolding every_group
  groups-from zero q h p lo hi = absurd (omega arith)
  groups-from (suc n) q h p lo hi =
      let (x, y) = both (f q (group_of ix q)) (every_group f ix (suc q) n) h in
      groups-step q p x (λ l. groups-from n (suc q) y p l (omega arith)) lo (ℕ_discrete p q)

  groups-to : (n q : ℕ) → ((p : ℕ) → q ≤ p → p < q + n → f p (group_of ix p) ≡ true) → every_group f ix q n ≡ true
  unfolding every_group
  groups-to zero q h = refl
  groups-to (suc n) q h = join _ _ (h q (omega arith) (omega arith)) (groups-to n (suc q) (λ p lo hi. h p (omega arith) (omega arith)))

  pub groups-inv : (n : ℕ) → every_group f ix 0 n ≡ true → (p : ℕ) → p < n → f p (group_of ix p) ≡ true
  groups-inv n h p l = groups-from n 0 h p (omega arith) (omega arith)

  pub groups-intro : (n : ℕ) → ((p : ℕ) → p < n → f p (group_of ix p) ≡ true) → every_group f ix 0 n ≡ true
  groups-intro n h = groups-to n 0 (λ p lo hi. h p (omega arith))

-- two tests that agree on each group
groups-alike : (f f' : ℕ → List ℕ → Bool) (ix : List ℕ) (n q : ℕ) → ((p : ℕ) → q ≤ p → p < q + n → f p (group_of ix p) ≡ f' p (group_of ix p)) → every_group f ix q n ≡ every_group f' ix q n
unfolding every_group
groups-alike f f' ix zero q h = refl
groups-alike f f' ix (suc n) q h = rw (h q (omega arith) (omega arith), groups-alike f f' ix n (suc q) (λ p lo hi. h p (omega arith) (omega arith)))

pub groups-same : (f f' : ℕ → List ℕ → Bool) (ix : List ℕ) (n : ℕ) → ((p : ℕ) → p < n → f p (group_of ix p) ≡ f' p (group_of ix p)) → every_group f ix 0 n ≡ every_group f' ix 0 n
groups-same f f' ix n h = groups-alike f f' ix n 0 (λ p lo hi. h p (omega arith))

pub record IndexPasses (g : Geo) (bound : ℕ) (tab ix : List ℕ) : Type 0 where
  pub groups : (p : ℕ) → p < g_p g → GroupPasses g bound tab p (group_of ix p)
  pub zeros : every is_zero (drop (16 * g_p g) ix) ≡ true

pub index-inv : (g : Geo) (bound : ℕ) (tab ix : List ℕ) → index_ok g bound tab ix ≡ true → IndexPasses g bound tab ix
unfolding index_ok
index-inv g bound tab ix h =
    let (a, b) = both (every_group (group_ok g bound tab) ix 0 (g_p g)) _ h in
    record { groups = λ p l. group-inv g bound tab p (group_of ix p) (groups-inv (group_ok g bound tab) ix (g_p g) a p l); zeros = b }

pub index-intro : (g : Geo) (bound : ℕ) (tab ix : List ℕ) → IndexPasses g bound tab ix → index_ok g bound tab ix ≡ true
unfolding index_ok
index-intro g bound tab ix P = join _ _ (groups-intro (group_ok g bound tab) ix (g_p g) (λ p l. group-intro g bound tab p (group_of ix p) (P.groups p l))) P.zeros

-- the page shown is one of pair p
pub shown-page : (g : Geo) (p : ℕ) (tab x : List ℕ) → pair_ok g p (word_at x 8) (word_at x 12) ≡ true → (shown_page tab x ≡ pair_low g p) ⊎ (shown_page tab x ≡ pair_high g p)
unfolding shown_page showing
shown-page g p tab x h = go (alive tab (stamp_of x)) (pair_values g p _ _ h)
  where
    go : (b : Bool) → Pair g p (word_at x 8) (word_at x 12) → (cond b (word_at x 8) (word_at x 12) ≡ pair_low g p) ⊎ (cond b (word_at x 8) (word_at x 12) ≡ pair_high g p)
    go true (inl q) = inl q.0
    go true (inr q) = inr q.0
    go false (inl q) = inr q.1
    go false (inr q) = inl q.1

-- by its bounds
pub shown-range : (g : Geo) (p : ℕ) (tab x : List ℕ) → pair_ok g p (word_at x 8) (word_at x 12) ≡ true → (pair_low g p ≤ shown_page tab x) × (shown_page tab x ≤ pair_high g p)
shown-range g p tab x h = ⊎_elim (λ q. (omega (arith, q), omega (arith, q))) (λ q. (omega (arith, q), omega (arith, q))) (shown-page g p tab x h)

-- and it lies before the directory
pub shown-before : (g : Geo) (p : ℕ) (tab x : List ℕ) → p < g_p g → pair_ok g p (word_at x 8) (word_at x 12) ≡ true → (first_page g ≤ shown_page tab x) × (shown_page tab x < g_dir g)
shown-before g p tab x l h = let r = shown-range g p tab x h in (omega (arith, r.0), omega (arith, r.1, dir-is g))
