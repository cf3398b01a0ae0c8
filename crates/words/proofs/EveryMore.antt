-- Tests of every element: after one of them was stored, of the rest of a list, of an append, of equal elements, and of zeros. Assumes nothing.
use mathlib.Core.Path.{◌≡◌, refl, ap, ◌∙◌}
use mathlib.Core.Bool.{Bool, true}
use mathlib.Core.List.{List, [], ◌∷◌, ◌++◌}
use Prim.Native.Nat.{ℕ, zero, suc}
use lib.ListN.{length, drop, get_or, set, replicate}
use lib.Dec.{eqb}
use borrow.Author.Tests.{eqb-true, eq-eqb}
use Rattle.words.specs.Lists.{every, is_zero, eq_list, pairwise}
use Rattle.words.proofs.BoolLaws.{both, join, falsum, All2, nil2, cons2}

pub every_set : {A : Type 0} (f : A → Bool) (l : List A) (i : ℕ) (x : A) → every f l ≡ true → f x ≡ true → every f (set l i x) ≡ true
unfolding every
every_set f [] i x h q = refl
every_set f (y ∷ l) zero x h q = join _ _ q (both (f y) (every f l) h).1
every_set f (y ∷ l) (suc i) x h q = join _ _ (both (f y) (every f l) h).0 (every_set f l i x (both (f y) (every f l) h).1 q)

pub every_drop : {A : Type 0} (f : A → Bool) (n : ℕ) (l : List A) → every f l ≡ true → every f (drop n l) ≡ true
unfolding every
every_drop f zero l h = h
every_drop f (suc n) [] h = refl
every_drop f (suc n) (x ∷ l) h = every_drop f n l (both (f x) (every f l) h).1

-- two lists side by side, whose elements pass alike
pub every_two : {A : Type 0} {R : A → A → Type 0} (f : A → Bool) {l m : List A} → ((a b : A) → R a b → f a ≡ true → f b ≡ true) → All2 R l m → every f l ≡ true → every f m ≡ true
unfolding every
every_two f q nil2 h = refl
every_two f q (cons2 {a = a} {b = b} {l = l} {m = m} r p) h = join _ _ (q a b r (both (f a) (every f l) h).0) (every_two f q p (both (f a) (every f l) h).1)

-- every element passes another test as well
pub every-weaker : {A : Type 0} (f g : A → Bool) (l : List A) → ((a : A) → f a ≡ true → g a ≡ true) → every f l ≡ true → every g l ≡ true
unfolding every
every-weaker f g [] q h = refl
every-weaker f g (x ∷ l) q h = join _ _ (q x (both (f x) (every f l) h).0) (every-weaker f g l q (both (f x) (every f l) h).1)

pub every_append : (f : ℕ → Bool) (a b : List ℕ) → every f a ≡ true → every f b ≡ true → every f (a ++ b) ≡ true
unfolding every
every_append f [] b h q = q
every_append f (x ∷ xs) b h q = let (u, v) = both (f x) (every f xs) h in join _ _ u (every_append f xs b v q)

pub every-replicate : {A : Type 0} (f : A → Bool) (a : A) (n : ℕ) → f a ≡ true → every f (replicate n a) ≡ true
unfolding every
every-replicate f a zero h = refl
every-replicate f a (suc n) h = join _ _ h (every-replicate f a n h)

pub pairwise_replicate : {A : Type 0} (f : A → A → Bool) (a : A) (n : ℕ) → f a a ≡ true → pairwise f (replicate n a) ≡ true
unfolding pairwise
pairwise_replicate f a zero h = refl
pairwise_replicate f a (suc n) h = join _ _ (every-replicate (f a) a n h) (pairwise_replicate f a n h)

-- ---- zeros

pub zeros-zero : (n : ℕ) → every is_zero (replicate n 0) ≡ true
zeros-zero n = every-replicate is_zero 0 n refl

pub zero-at : (l : List ℕ) (i : ℕ) → every is_zero l ≡ true → get_or l i 0 ≡ 0
unfolding every
zero-at [] i h = refl
zero-at (x ∷ l) zero h = eqb-true x 0 (both (eqb x 0) (every is_zero l) h).0
zero-at (x ∷ l) (suc i) h = zero-at l i (both (eqb x 0) (every is_zero l) h).1

pub zeros-are : (l : List ℕ) → every is_zero l ≡ true → l ≡ replicate (length l) 0
unfolding every
zeros-are [] h = refl
zeros-are (x ∷ l) h =
    let (a, b) = both (eqb x 0) (every is_zero l) h in
    ap (λ (y : ℕ). y ∷ l) (eqb-true x 0 a) ∙ ap (λ (r : List ℕ). 0 ∷ r) (zeros-are l b)

-- ---- equal lists

pub eq_list-refl : (n : List ℕ) → eq_list n n ≡ true
unfolding eq_list
eq_list-refl [] = refl
eq_list-refl (x ∷ n) = rw (eq-eqb x x refl, eq_list-refl n)

pub eq_list-eq : (n m : List ℕ) → eq_list n m ≡ true → n ≡ m
unfolding eq_list
eq_list-eq [] [] h = refl
eq_list-eq [] (y ∷ m) h = falsum h
eq_list-eq (x ∷ n) [] h = falsum h
eq_list-eq (x ∷ n) (y ∷ m) h = let (a, b) = both (eqb x y) (eq_list n m) h in rw (eqb-true x y a, eq_list-eq n m b)
