-- What a search found: the element passes; where it found none, none does. Assumes nothing.
use Rattle.std.specs.Prelude.{Some, None}
use mathlib.Core.Path.{◌≡◌, refl, sym, ap, ◌∙◌}
use mathlib.Core.Bool.{Bool, true, false, cond}
use mathlib.Core.List.{List, [], ◌∷◌}
use Prim.Native.Nat.{ℕ, zero, suc, ◌+◌, ◌<◌}
use native.Mathlib.Omega.{arith}
use lib.ListN.{length, get_or}
use Rattle.words.proofs.BoolLaws.{never}
use Rattle.words.specs.Lists.{first_at}

pub at_one : {i j : ℕ} → Some i ≡ Some j → i ≡ j
at_one {i} {j} e = cc

pub not_at : {P : Type 0} {i : ℕ} → Some i ≡ None → P
not_at {P} {i} e = never (cc)

module _ {A : Type 0} (f : A → Bool) (d : A) where
  -- the element found passes
  pub first_found : (i m : ℕ) (l : List A) → first_at f i l ≡ Some m → (j : ℕ) × (m ≡ i + j) × (j < length l) × (f (get_or l j d) ≡ true)
  unfolding first_at
  first_found i m [] h = not_at (sym h)
  first_found i m (x ∷ l) h = go (f x) refl h (first_found (suc i) m l)
    where
      go : (b : Bool) → f x ≡ b → cond b (Some i) (first_at f (suc i) l) ≡ Some m
          → (first_at f (suc i) l ≡ Some m → (j : ℕ) × (m ≡ suc i + j) × (j < length l) × (f (get_or l j d) ≡ true))
          → (j : ℕ) × (m ≡ i + j) × (j < suc (length l)) × (f (get_or (x ∷ l) j d) ≡ true)
      go true e q ih = (0, omega (arith, at_one q), omega arith, e)
      go false e q ih = let (j, a, b, c) = ih q in (suc j, omega arith, omega arith, c)

  -- counted from 0
  pub found_at : (l : List A) (m : ℕ) → first_at f 0 l ≡ Some m → (m < length l) × (f (get_or l m d) ≡ true)
  found_at l m h =
      let (j, a, b, c) = first_found 0 m l h in
      let e : j ≡ m = omega arith in
      (omega arith, ap (λ (k : ℕ). f (get_or l k d)) (sym e) ∙ c)

  -- where none is found, no element passes
  pub found_none : (i : ℕ) (l : List A) → first_at f i l ≡ None → (j : ℕ) → j < length l → f (get_or l j d) ≡ false
  unfolding first_at
  found_none i [] h j k = absurd (omega arith)
  found_none i (x ∷ l) h j k = go (f x) refl h j k (found_none (suc i) l)
    where
      go : (b : Bool) → f x ≡ b → cond b (Some i) (first_at f (suc i) l) ≡ None → (j : ℕ) → j < suc (length l)
          → (first_at f (suc i) l ≡ None → (j : ℕ) → j < length l → f (get_or l j d) ≡ false) → f (get_or (x ∷ l) j d) ≡ false
      go true e q j k ih = not_at q
      go false e q zero k ih = e
      go false e q (suc j) k ih = ih q j (omega arith)
