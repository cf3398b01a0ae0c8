-- The first place from which k are clear is the lowest run free in both views, at or after a sector; put's run with a goal. Assumes nothing.
use Rattle.std.specs.Prelude.{Option, Some, None}
use mathlib.Core.Path.{◌≡◌, refl, sym, ap, ◌∙◌, subst}
use mathlib.Core.Bool.{Bool, true, false, cond, ◌&&◌}
use mathlib.Core.List.{List, [], ◌∷◌}
use Prim.Native.Nat.{ℕ, zero, suc, ◌+◌, ◌-◌, ◌*◌, ◌%◌, ◌≤◌, ◌<◌}
use native.Mathlib.Decide.{ℕ_discrete, dec_lt}
use native.Mathlib.Omega.{arith}
use borrow.Author.Tests.{eqb-true, eq-eqb, leb-true, le-leb}
use lib.Dec.{eqb}
use lib.ListN.{length, take, drop, get_or, length-drop, drop_of_length-le}
use lib.Seq.{get_or-drop, get_or-take, take_all, length-take-le}
use Rattle.words.specs.Lists.{or_else}
use Rattle.words.proofs.BoolLaws.{both, join}
use Rattle.words.proofs.FirstLaws.{at_one, not_at}
use Rattle.counts.specs.Geometry.{in_page}
use Rattle.apages.specs.Bits.{bit_at, bits_of}
use Rattle.apages.proofs.BitLaws.{bits_at, bits-length}
use Rattle.apages.specs.Runs.{merge, all_clear, find_run, run_after, lowest_run, goal_run, run_for}
use Rattle.apages.specs.Inner.{busy_at, run_within}
use Rattle.apages.proofs.Scan.{GoodIn, LowestOf, Lowest, page-lowest, lowest-one}

pub merge-at : (a b : List ℕ) (n : ℕ) → length a ≡ length b → get_or (merge a b) n 0 ≡ get_or a n 0 + get_or b n 0
unfolding merge
merge-at [] [] n h = refl
merge-at [] (y ∷ b) n h = absurd (omega arith)
merge-at (x ∷ a) [] n h = absurd (omega arith)
merge-at (x ∷ a) (y ∷ b) zero h = refl
merge-at (x ∷ a) (y ∷ b) (suc n) h = merge-at a b n (omega arith)

pub merge-length : (a b : List ℕ) → length a ≡ length b → length (merge a b) ≡ length a
unfolding merge
merge-length [] [] h = refl
merge-length [] (y ∷ b) h = absurd (omega arith)
merge-length (x ∷ a) [] h = absurd (omega arith)
merge-length (x ∷ a) (y ∷ b) h = ap suc (merge-length a b (omega arith))

-- the first k are clear: there are k, and each is
clear-all : (k : ℕ) (l : List ℕ) → all_clear k l ≡ true → (k ≤ length l) × ((j : ℕ) → j < k → get_or l j 0 ≡ 0)
unfolding all_clear
clear-all zero l h = (omega arith, λ j b. omega arith)
clear-all (suc k) [] h = absurd (let z : ◌≡◌ {A = ℕ} 0 1 = cc in omega arith)
clear-all (suc k) (x ∷ xs) h = go (both (eqb x 0) (all_clear k xs) h).0 (clear-all k xs (both (eqb x 0) (all_clear k xs) h).1)
  where
    at : ((j : ℕ) → j < k → get_or xs j 0 ≡ 0) → x ≡ 0 → (j : ℕ) → j < suc k → get_or (x ∷ xs) j 0 ≡ 0
    at z e zero b = e
    at z e (suc j) b = z j (omega arith)

    go : eqb x 0 ≡ true → (k ≤ length xs) × ((j : ℕ) → j < k → get_or xs j 0 ≡ 0) → (suc k ≤ length (x ∷ xs)) × ((j : ℕ) → j < suc k → get_or (x ∷ xs) j 0 ≡ 0)
    go e w = (omega arith, at w.1 (eqb-true x 0 e))

all-clear : (k : ℕ) (l : List ℕ) → k ≤ length l → ((j : ℕ) → j < k → get_or l j 0 ≡ 0) → all_clear k l ≡ true
unfolding all_clear
all-clear zero l h z = refl
all-clear (suc k) [] h z = absurd (omega arith)
all-clear (suc k) (x ∷ xs) h z = rw (eq-eqb x 0 (z 0 (omega arith)), all-clear k xs (omega arith) (λ j b. z (suc j) (omega arith)))

-- one place more before a list that was searched
more-lowest : (f : ℕ → ℕ) (k i hi : ℕ) (r : Option ℕ) → (i + k ≤ hi → GoodIn f k i → ⊥) → LowestOf (GoodIn f k) k (suc i) hi r → LowestOf (GoodIn f k) k i hi r
more-lowest f k i hi (Some s) bad low = (omega arith, low.1, low.2, λ t a b good. go t a b good (ℕ_discrete t i))
  where
    go : (t : ℕ) → i ≤ t → t < s → GoodIn f k t → Dec (t ≡ i) → ⊥
    go t a b good (yes e) = bad (omega arith) (omega (arith, good.0), λ n x y. good.1 n (omega arith) (omega arith))
    go t a b good (no e) = low.3 t (omega arith) b good
more-lowest f k i hi None bad low = λ t a b good. go t a b good (ℕ_discrete t i)
  where
    go : (t : ℕ) → i ≤ t → t + k ≤ hi → GoodIn f k t → Dec (t ≡ i) → ⊥
    go t a b good (yes e) = bad (omega arith) (omega (arith, good.0), λ n x y. good.1 n (omega arith) (omega arith))
    go t a b good (no e) = low t (omega arith) b good

-- the search finds the lowest: f says what stands in the list, which starts at i
find-lowest : (f : ℕ → ℕ) (k i : ℕ) (l : List ℕ) → 0 < k → ((j : ℕ) → j < length l → f (i + j) ≡ get_or l j 0) → LowestOf (GoodIn f k) k i (i + length l) (find_run k i l)
unfolding find_run
find-lowest f k i [] h e = λ t a b good. omega arith
find-lowest f k i (x ∷ xs) h e =
    go (in_page i k && all_clear k (x ∷ xs)) refl
    (find-lowest f k (suc i) xs h (λ j b. ap f (omega arith) ∙ e (suc j) (omega arith)))
  where
    go : (c : Bool) → (in_page i k && all_clear k (x ∷ xs)) ≡ c → LowestOf (GoodIn f k) k (suc i) (suc i + length xs) (find_run k (suc i) xs)
        → LowestOf (GoodIn f k) k i (i + length (x ∷ xs)) (cond c (Some i) (find_run k (suc i) xs))
    go true c low =
        let (z, y) = both (in_page i k) (all_clear k (x ∷ xs)) c in
        let w = clear-all k (x ∷ xs) y in
        (omega arith, omega arith, (leb-true _ _ z, λ n a b. ap f (omega arith) ∙ e (n - i) (omega arith) ∙ w.1 (n - i) (omega arith)), λ t a b good. omega arith)
    go false c low =
        let s : suc i + length xs ≡ i + length (x ∷ xs) = omega arith in
        more-lowest f k i (i + length (x ∷ xs)) (find_run k (suc i) xs)
        (λ b good.
        let z : true ≡ false = sym (join (in_page i k) (all_clear k (x ∷ xs)) (le-leb _ _ good.0) (all-clear k (x ∷ xs) (omega arith) (λ j q. sym (e j (omega arith)) ∙ good.1 (i + j) (omega arith) (omega arith)))) ∙ c in
        let y : ◌≡◌ {A = ℕ} 0 1 = cc in omega arith)
        (subst (λ (n : ℕ). LowestOf (GoodIn f k) k (suc i) n (find_run k (suc i) xs)) s low)

module _ (k : ℕ) (p q : List ℕ) (some : 0 < k) (alike : length p ≡ length q) where
  abbrev pub both_bits : List ℕ
  both_bits = merge (bits_of p) (bits_of q)

  pub both-length : length both_bits ≡ 8 * length p
  both-length = merge-length (bits_of p) (bits_of q) (omega (arith, bits-length p, bits-length q)) ∙ bits-length p

  both_at : (j : ℕ) → busy_at p q j ≡ get_or both_bits j 0
  unfolding busy_at
  both_at j = sym (merge-at (bits_of p) (bits_of q) j (omega (arith, bits-length p, bits-length q)) ∙ rw (bits_at p j, bits_at q j))

  -- the search below sector hi, and the one that has no end but the maps'
  within-lowest : (lo hi : ℕ) → hi ≤ 8 * length p → LowestOf (GoodIn (busy_at p q) k) k lo hi (run_within k lo hi p q)
  unfolding run_within
  within-lowest lo hi in-it = go (dec_lt hi lo)
    where
      part : List ℕ
      part = take hi both_bits

      part_length : length part ≡ hi
      part_length = length-take-le hi both_bits (omega (arith, both-length))

      part_at : (j : ℕ) → j < length (drop lo part) → busy_at p q (lo + j) ≡ get_or (drop lo part) j 0
      part_at j b =
          both_at (lo + j) ∙ sym (get_or-drop lo part j 0 ∙ (get_or-take hi both_bits (lo + j) 0 (omega (arith, length-drop lo part, part_length))))

      go : Dec (hi < lo) → LowestOf (GoodIn (busy_at p q) k) k lo hi (find_run k lo (drop lo part))
      go (yes l) = let past : length part ≤ lo = omega (arith, part_length) in rw (drop_of_length-le part past) (unfold find_run in λ t a b good. omega arith)
      go (no l) =
          let n : lo + length (drop lo part) ≡ hi = omega (arith, length-drop lo part, part_length) in
          subst (λ (n : ℕ). LowestOf (GoodIn (busy_at p q) k) k lo n (find_run k lo (drop lo part))) n (find-lowest (busy_at p q) k lo (drop lo part) some part_at)

  -- what is found ends below it
  pub within-found : (lo hi a : ℕ) → hi ≤ 8 * length p → run_within k lo hi p q ≡ Some a → a + k ≤ hi
  within-found lo hi a l e =
      let low : LowestOf (GoodIn (busy_at p q) k) k lo hi (Some a) = subst (λ (r : Option ℕ). LowestOf (GoodIn (busy_at p q) k) k lo hi r) e (within-lowest lo hi l) in
      low.1

  pub within_all : (lo hi : ℕ) → 8 * length p ≤ hi → run_within k lo hi p q ≡ run_after k lo p q
  unfolding run_within run_after
  within_all lo hi l = ap (λ (m : List ℕ). find_run k lo (drop lo m)) (take_all hi both_bits (omega (arith, both-length)))

  run-is-lowest : (lo : ℕ) → LowestOf (GoodIn (busy_at p q) k) k lo (8 * length p) (run_after k lo p q)
  run-is-lowest lo =
      subst (λ (r : Option ℕ). LowestOf (GoodIn (busy_at p q) k) k lo (8 * length p) r) (within_all lo (8 * length p) (omega arith)) (within-lowest lo (8 * length p) (omega arith))

  -- what a pass over one page, from sector lo on and below sector hi, found that is the lowest is what the definition finds
  pub lowest-within : length p ≤ 512 → (lo hi : ℕ) (r : Option ℕ) → hi ≤ 8 * length p → Lowest (busy_at p q) k lo hi r → r ≡ run_within k lo hi p q
  lowest-within one lo hi r l low =
      lowest-one (GoodIn (busy_at p q) k) k lo hi r (run_within k lo hi p q) (page-lowest (busy_at p q) k lo hi r (omega arith) low) (within-lowest lo hi l)

  -- k sectors of the maps from t on, in one page, are free in both
  abbrev pub Room : ℕ → Type 0
  Room t = (t + k ≤ 8 * length p) × (t % 4096 + k ≤ 4096) × ((n : ℕ) → t ≤ n → n < t + k → (bit_at p n ≡ 0) × (bit_at q n ≡ 0))

  room-good : (t : ℕ) → Room t → GoodIn (busy_at p q) k t
  unfolding busy_at
  room-good t r = (r.1, λ n x y. omega (arith, (r.2 n x y).0, (r.2 n x y).1))

  -- what is found at or after a sector has room, and nothing between has
  pub after-found : (lo a : ℕ) → run_after k lo p q ≡ Some a → (lo ≤ a) × Room a × ((t : ℕ) → lo ≤ t → t < a → Room t → ⊥)
  unfolding busy_at
  after-found lo a e =
      let low : LowestOf (GoodIn (busy_at p q) k) k lo (8 * length p) (Some a) = subst (λ (r : Option ℕ). LowestOf (GoodIn (busy_at p q) k) k lo (8 * length p) r) e (run-is-lowest lo) in
      (low.0, (low.1, low.2.0, λ n x y. (omega (arith, low.2.1 n x y), omega (arith, low.2.1 n x y))), λ t l b r. low.3 t l b (room-good t r))

  -- where none is found there is none
  pub after-nowhere : (lo : ℕ) → run_after k lo p q ≡ None → (t : ℕ) → lo ≤ t → Room t → ⊥
  after-nowhere lo e t l r =
      let low : LowestOf (GoodIn (busy_at p q) k) k lo (8 * length p) None = subst (λ (r : Option ℕ). LowestOf (GoodIn (busy_at p q) k) k lo (8 * length p) r) e (run-is-lowest lo) in
      low t l r.0 (room-good t r)

  -- ---- with a goal

  -- a is the run for a goal: "the first fitting run at or after it, else the lowest"
  pub record GoalRun (goal a : ℕ) : Type 0 where
    pub room : Room a
    pub first : (t : ℕ) → goal ≤ t → Room t → (goal ≤ a) × (a ≤ t)
    pub lowest : a < goal → (t : ℕ) → Room t → a ≤ t

  -- where nothing lower has room
  least : (lo a : ℕ) → ((t : ℕ) → lo ≤ t → t < a → Room t → ⊥) → (t : ℕ) → lo ≤ t → Room t → a ≤ t
  least lo a w t l r = go (dec_lt t a)
    where
      go : Dec (t < a) → a ≤ t
      go (yes x) = absurd (w t l x r)
      go (no x) = omega arith

  pub goal-found : (goal a : ℕ) → goal_run k goal p q ≡ Some a → GoalRun goal a
  unfolding goal_run lowest_run
  goal-found goal a e = go (run_after k goal p q) refl e
    where
      go : (o : Option ℕ) → run_after k goal p q ≡ o → or_else o (run_after k 0 p q) ≡ Some a → GoalRun goal a
      go (Some b) f h =
          let y : b ≡ a = (unfold or_else in at_one h) in
          let (lo, room, none) = after-found goal a (rw y at f) in
          record { room = room; first = λ t l r. (lo, least goal a none t l r); lowest = λ l. absurd (omega (arith, lo)) }
      go None f h =
          let (lo, room, none) = after-found 0 a (unfold or_else in h) in
          record { room = room; first = λ t l r. absurd (after-nowhere goal f t l r); lowest = λ l t r. least 0 a none t (omega arith) r }

  -- where none is found there is none, whatever the goal
  pub goal-nowhere : (goal : ℕ) → goal_run k goal p q ≡ None → (t : ℕ) → Room t → ⊥
  unfolding goal_run lowest_run
  goal-nowhere goal e = go (run_after k goal p q) refl e
    where
      go : (o : Option ℕ) → run_after k goal p q ≡ o → or_else o (run_after k 0 p q) ≡ None → (t : ℕ) → Room t → ⊥
      go (Some b) f h t r = unfold or_else in not_at h
      go None f h t r = after-nowhere 0 (unfold or_else in h) t (omega arith) r

-- "Goal 0 is today's rule"
pub goal-zero : (k : ℕ) (p q : List ℕ) → goal_run k 0 p q ≡ lowest_run k p q
unfolding goal_run lowest_run
goal-zero k p q = go (run_after k 0 p q)
  where
    go : (o : Option ℕ) → or_else o o ≡ o
    go (Some a) = unfold or_else in refl
    go None = unfold or_else in refl

-- put's k sectors, where it has some
pub run-for-some : (k goal : ℕ) (p q : List ℕ) → (k ≡ 0 → ⊥) → run_for k goal p q ≡ goal_run k goal p q
unfolding run_for
run-for-some zero goal p q n = absurd (n refl)
run-for-some (suc k) goal p q n = refl

pub run-for-none : (k goal a : ℕ) (p q : List ℕ) → run_for k goal p q ≡ Some a → k ≡ 0 → a ≡ 0
unfolding run_for
run-for-none zero goal a p q h z = cc
run-for-none (suc k) goal a p q h z = absurd (omega arith)

pub run-for : (k goal a : ℕ) (p q : List ℕ) (some : 0 < k) (alike : length p ≡ length q) → run_for k goal p q ≡ Some a → GoalRun k p q some alike goal a
run-for k goal a p q some alike h = goal-found k p q some alike goal a (sym (run-for-some k goal p q (λ z. omega arith)) ∙ h)

-- its sectors, free in both
pub run-clear : (k goal a : ℕ) (p q : List ℕ) → length p ≡ length q → run_for k goal p q ≡ Some a → (i : ℕ) → a ≤ i → i < a + k
    → (bit_at p i ≡ 0) × (bit_at q i ≡ 0) × (i < 8 * length p)
run-clear k goal a p q l h i lo hi =
    let r = (run-for k goal a p q (omega arith) l h).room in
    let w = r.2 i lo hi in
    (w.0, w.1, omega (arith, r.0))

pub run-page : (k goal a : ℕ) (p q : List ℕ) → length p ≡ length q → run_for k goal p q ≡ Some a → a % 4096 + k ≤ 4096
run-page zero goal a p q l h = omega arith
run-page (suc k) goal a p q l h = (run-for (suc k) goal a p q (omega arith) l h).room.1

-- "no run crosses out of one": more sectors than a page has are found nowhere
pub run-large : (k goal : ℕ) (p q : List ℕ) → length p ≡ length q → 4096 < k → goal_run k goal p q ≡ None
run-large k goal p q l h = go (goal_run k goal p q) refl
  where
    go : (o : Option ℕ) → goal_run k goal p q ≡ o → goal_run k goal p q ≡ None
    go (Some a) e = absurd (omega (arith, (goal-found k p q (omega arith) l goal a e).room.1))
    go None e = e

pub run_fits : (k goal a S : ℕ) (p q : List ℕ) → run_for k goal p q ≡ Some a → ((i : ℕ) → a ≤ i → i < a + k → i < S) → a + k ≤ S
run_fits zero goal a S p q h f = omega (arith, run-for-none zero goal a p q h refl)
run_fits (suc k) goal a S p q h f = omega (arith, f (a + k) (omega arith) (omega arith))
