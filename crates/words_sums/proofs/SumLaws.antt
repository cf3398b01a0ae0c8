-- Laws of sums and of runs. Assumes nothing.
use mathlib.Core.Path.{◌≡◌, refl}
use mathlib.Core.Logic.{◌⊎◌, inl, inr, ⊎_elim}
use Prim.Native.Nat.{ℕ, zero, suc, ◌+◌, ◌-◌, min, ◌≤◌, ◌<◌}
use native.Mathlib.Decide.{ℕ_discrete, dec_lt}
use native.Mathlib.Nat.{add-zero, add-suc}
use native.Mathlib.Omega.{arith}
use borrow.Author.Tests.{lt-ltb, le-ltb, le-leb, lt-leb}
use Rattle.words_sums.specs.Sums.{total, in_run}

-- ---- a run

-- a number is below a run, in it, or past it
abbrev pub Where : ℕ → ℕ → ℕ → Type 0
Where a n i = ((i < a) × (in_run a n i ≡ 0)) ⊎ (((a ≤ i) × (i < a + n) × (in_run a n i ≡ 1)) ⊎ ((a ≤ i) × (a + n ≤ i) × (in_run a n i ≡ 0)))

pub place : (a n i : ℕ) → Where a n i
unfolding in_run
place a n i = go (dec_lt i a) (dec_lt i (a + n))
  where
    go : Dec (i < a) → Dec (i < a + n) → Where a n i
    go (yes h) d = inl (h, rw (lt-leb a i h))
    go (no h) (yes k) = inr (inl (omega arith, k, rw (le-leb a i (omega arith), lt-ltb i (a + n) k)))
    go (no h) (no k) = inr (inr (omega arith, omega arith, rw (le-leb a i (omega arith), le-ltb i (a + n) (omega arith))))

-- ---- sums

pub total-none : (f : ℕ → ℕ) → total f 0 ≡ 0
unfolding total
total-none f = refl

-- sums add pointwise
pub total-add : (f g h : ℕ → ℕ) (n : ℕ) → ((i : ℕ) → i < n → f i + g i ≡ h i) → total f n + total g n ≡ total h n
unfolding total
total-add f g h zero e = refl
total-add f g h (suc n) e = omega (arith, total-add f g h n (λ i l. e i (omega arith)), e n (omega arith))

-- a sum of 0 has no other summand
pub total-empty : (f : ℕ → ℕ) (n : ℕ) → total f n ≡ 0 → (i : ℕ) → i < n → f i ≡ 0
unfolding total
total-empty f zero e i l = absurd (omega arith)
total-empty f (suc n) e i l = go (λ h. total-empty f n (omega arith) i h) (dec_lt i n)
  where
    go : (i < n → f i ≡ 0) → Dec (i < n) → f i ≡ 0
    go ih (yes h) = ih h
    go ih (no h) = let q : i ≡ n = omega arith in rw q (omega arith)

-- where the summands from a on are 0 the sum stops there
pub total-stop : (f : ℕ → ℕ) (a n : ℕ) → ((i : ℕ) → a ≤ i → i < a + n → f i ≡ 0) → total f (a + n) ≡ total f a
unfolding total
total-stop f a zero h = let e : a + 0 ≡ a = omega arith in rw e
total-stop f a (suc n) h =
    let e : a + suc n ≡ suc (a + n) = omega arith in
    rw e (omega (arith, h (a + n) (omega arith) (omega arith), total-stop f a n (λ i lo hi. h i lo (omega arith))))

-- how much of a run lies below m
pub total-run : (a n m : ℕ) → total (in_run a n) m ≡ min n (m - a)
unfolding total
total-run a n zero = omega arith
total-run a n (suc m) = let h = total-run a n m in ⊎_elim (λ w. omega arith) (⊎_elim (λ w. omega arith) (λ w. omega arith)) (place a n m)

pub total-same : (f g : ℕ → ℕ) (m : ℕ) → ((i : ℕ) → i < m → f i ≡ g i) → total f m ≡ total g m
unfolding total
total-same f g zero h = refl
total-same f g (suc m) h = omega (arith, total-same f g m (λ i l. h i (omega arith)), h m (omega arith))

pub total-zero : (m : ℕ) → total (λ i. 0) m ≡ 0
unfolding total
total-zero zero = refl
total-zero (suc m) = omega (arith, total-zero m)

-- a sum in two parts, and with its first summand apart
pub total-split : (f : ℕ → ℕ) (a b : ℕ) → total f (a + b) ≡ total f a + total (λ i. f (a + i)) b
unfolding total
total-split f a zero = rw (add-zero a) (omega arith)
total-split f a (suc b) = rw (add-suc a b) (omega (arith, total-split f a b))

pub total-front : (f : ℕ → ℕ) (n : ℕ) → total f (suc n) ≡ f 0 + total (λ i. f (suc i)) n
unfolding total
total-front f zero = omega arith
total-front f (suc n) = omega (arith, total-front f n)

pub total-one : (m : ℕ) → total (λ i. 1) m ≡ m
unfolding total
total-one zero = refl
total-one (suc m) = omega (arith, total-one m)

-- sums grow pointwise
pub total-le : (f g : ℕ → ℕ) (m : ℕ) → ((i : ℕ) → i < m → f i ≤ g i) → total f m ≤ total g m
unfolding total
total-le f g zero h = omega arith
total-le f g (suc m) h = omega (arith, total-le f g m (λ i l. h i (omega arith)), h m (omega arith))

-- summands that are nowhere larger, and the same sum: they are the same
pub total-tight : (f g : ℕ → ℕ) (m : ℕ) → ((i : ℕ) → i < m → f i ≤ g i) → total f m ≡ total g m → (i : ℕ) → i < m → f i ≡ g i
unfolding total
total-tight f g zero h e i l = absurd (omega arith)
total-tight f g (suc m) h e i l =
    let low : total f m ≤ total g m = total-le f g m (λ j k. h j (omega arith)) in
    go (ℕ_discrete i m) (λ k. total-tight f g m (λ j q. h j (omega arith)) (omega (arith, h m (omega arith))) i k) low
  where
    go : Dec (i ≡ m) → (i < m → f i ≡ g i) → total f m ≤ total g m → f i ≡ g i
    go (yes q) ih low = rw q (omega (arith, h m (omega arith)))
    go (no q) ih low = ih (omega arith)
