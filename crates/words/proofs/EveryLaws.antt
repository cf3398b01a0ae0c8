-- How a loop proves a test of every element, or a search: the answer for what is left. Assumes nothing.
use Rattle.std.specs.Prelude.{Option, Some, None}
use mathlib.Core.Path.{◌≡◌, refl, sym, ap, ◌∙◌}
use mathlib.Core.Bool.{Bool, true, false, not, cond, ◌&&◌}
use mathlib.Core.List.{List, [], ◌∷◌}
use Prim.Native.Nat.{ℕ, zero, suc, ◌+◌, ◌≤◌, ◌<◌}
use native.Mathlib.Numerals.{add-one}
use native.Mathlib.Omega.{arith}
use native.Mathlib.Decide.{dec_lt}
use native.Mathlib.Nat.{le_of_suc-le-suc, not-suc-le-zero, add-zero}
use borrow.Author.Tests.{not-true, not-false}
use lib.ListN.{length, drop, get_or, drop_of_length-le}
use lib.Seq.{drop-cons}
use lib.Dec.{eqb}
use Rattle.words.proofs.BoolLaws.{both}
use Rattle.words.specs.Lists.{every, pairwise, first_at, eq_list}

-- what the loop's next element says, and what is left
pub every-next : {A : Type 0} (f : A → Bool) (l : List A) (i : ℕ) (d : A) → i < length l → every f (drop i l) ≡ (f (get_or l i d) && every f (drop (i + 1) l))
unfolding every
every-next f l i d h = rw (add-one, drop-cons l i d h)

pub and-false : (a : Bool) → (a && false) ≡ false
and-false true = refl
and-false false = refl

module _ {A : Type 0} (f : A → Bool) (l : List A) (d : A) {b : Bool} where
  -- an element that fails, by the loop's test of it
  pub every-stop : (i : ℕ) (r : Bool) → i < length l → r ≡ f (get_or l i d) → not r ≡ true → b ≡ every f (drop i l) → false ≡ b
  every-stop i r h e n inv =
      let z : f (get_or l i d) ≡ false = sym e ∙ not-true r n in
      sym (inv ∙ every-next f l i d h ∙ ap (λ (b : Bool). b && every f (drop (i + 1) l)) z)

  -- an element that passes
  pub every-go : (i : ℕ) (r : Bool) → i < length l → r ≡ f (get_or l i d) → not r ≡ false → b ≡ every f (drop i l) → b ≡ every f (drop (i + 1) l)
  every-go i r h e n inv =
      let z : f (get_or l i d) ≡ true = sym e ∙ not-false r n in
      inv ∙ every-next f l i d h ∙ ap (λ (b : Bool). b && every f (drop (i + 1) l)) z

  -- nothing left
  pub every-end : (i : ℕ) → length l ≤ i → b ≡ every f (drop i l) → true ≡ b
  unfolding every
  every-end i h inv = sym (inv ∙ ap (λ (x : List A). every f x) (drop_of_length-le l h))

-- a loop that does not stop: what was seen so far, and what is left
module _ {A : Type 0} (f : A → Bool) (l : List A) (d : A) {b : Bool} where
  pub seen-go : (i : ℕ) (s r : Bool) → i < length l → r ≡ f (get_or l i d) → b ≡ (s && every f (drop i l)) → b ≡ (s && r && every f (drop (i + 1) l))
  seen-go i true r h e inv = inv ∙ every-next f l i d h ∙ ap (λ (t : Bool). t && every f (drop (i + 1) l)) (sym e)
  seen-go i false r h e inv = inv

  pub seen_end : (i : ℕ) (s : Bool) → length l ≤ i → b ≡ (s && every f (drop i l)) → s ≡ b
  unfolding every
  seen_end i true h inv = sym (inv ∙ ap (λ (x : List A). every f x) (drop_of_length-le l h))
  seen_end i false h inv = sym inv

-- what a test that passed says of one element
pub every-at : {A : Type 0} (f : A → Bool) (l : List A) (i : ℕ) (d : A) → i < length l → every f l ≡ true → f (get_or l i d) ≡ true
unfolding every
every-at f [] i d h e = absurd (not-suc-le-zero h)
every-at f (x ∷ xs) zero d h e = (both (f x) (every f xs) e).0
every-at f (x ∷ xs) (suc i) d h e = every-at f xs i d (le_of_suc-le-suc h) (both (f x) (every f xs) e).1

pub pair-next : {A : Type 0} (f : A → A → Bool) (l : List A) (i : ℕ) (d : A) → i < length l → pairwise f (drop i l) ≡ (every (f (get_or l i d)) (drop (i + 1) l) && pairwise f (drop (i + 1) l))
unfolding pairwise
pair-next f l i d h = rw (add-one, drop-cons l i d h)

module _ {A : Type 0} (f : A → A → Bool) (l : List A) (d : A) {b : Bool} where
  pub pair_end : (i : ℕ) → length l ≤ i → b ≡ pairwise f (drop i l) → true ≡ b
  unfolding pairwise
  pair_end i h inv = sym (inv ∙ ap (λ (x : List A). pairwise f x) (drop_of_length-le l h))

-- the elements from i on pass where those from e on do, if those between pass
pub every-from : {A : Type 0} (f : A → Bool) (l : List A) (d : A) (k i : ℕ) → ((j : ℕ) → i ≤ j → j < i + k → j < length l → f (get_or l j d) ≡ true) → every f (drop i l) ≡ every f (drop (i + k) l)
every-from f l d zero i h = rw add-zero
every-from {A = A} f l d (suc k) i h =
    let e : i + 1 + k ≡ i + suc k = omega arith in
    go (dec_lt i (length l)) (rw e at (every-from f l d k (i + 1) (λ j a b c. h j (omega arith) (omega arith) c)))
  where
    go : Dec (i < length l) → every f (drop (i + 1) l) ≡ every f (drop (i + suc k) l) → every f (drop i l) ≡ every f (drop (i + suc k) l)
    go (yes a) ih = every-next f l i d a ∙ ap (λ (b : Bool). b && every f (drop (i + 1) l)) (h i (omega arith) (omega arith) a) ∙ ih
    go (no a) ih =
        let x : length l ≤ i = omega arith in
        let y : length l ≤ i + suc k = omega arith in
        rw (drop_of_length-le l x, drop_of_length-le l y)

-- what is left of a list whose pairs pass
pub pair-rest : {A : Type 0} (f : A → A → Bool) (i : ℕ) (l : List A) → pairwise f l ≡ true → pairwise f (drop i l) ≡ true
unfolding pairwise
pair-rest f zero l h = h
pair-rest f (suc i) [] h = refl
pair-rest f (suc i) (x ∷ l) h = pair-rest f i l (both (every (f x) l) (pairwise f l) h).1

-- ---- two lists

pub eq_list-next : (a b : List ℕ) (i : ℕ) → i < length a → i < length b → eq_list (drop i a) (drop i b) ≡ (eqb (get_or a i 0) (get_or b i 0) && eq_list (drop (i + 1) a) (drop (i + 1) b))
unfolding eq_list
eq_list-next a b i h k = rw (add-one, drop-cons a i 0 h, drop-cons b i 0 k)

pub eq_list-other : (a b : List ℕ) → (length a ≡ length b → ⊥) → false ≡ eq_list a b
unfolding eq_list
eq_list-other [] [] n = absurd (n refl)
eq_list-other [] (y ∷ b) n = refl
eq_list-other (x ∷ a) [] n = refl
eq_list-other (x ∷ a) (y ∷ b) n = sym (ap (λ (t : Bool). eqb x y && t) (sym (eq_list-other a b (λ e. n (ap suc e)))) ∙ and-false (eqb x y))

-- a loop that does not stop: what was seen so far, and what is left
pub eq_list-go : (a b : List ℕ) (i : ℕ) (s : Bool) → i < length a → i < length b → eq_list a b ≡ (s && eq_list (drop i a) (drop i b))
    → eq_list a b ≡ (s && eqb (get_or a i 0) (get_or b i 0) && eq_list (drop (i + 1) a) (drop (i + 1) b))
eq_list-go a b i true h k inv = inv ∙ eq_list-next a b i h k
eq_list-go a b i false h k inv = inv

pub eq_list-end : (a b : List ℕ) (i : ℕ) (s : Bool) → length a ≤ i → length b ≤ i → eq_list a b ≡ (s && eq_list (drop i a) (drop i b)) → s ≡ eq_list a b
unfolding eq_list
eq_list-end a b i true h k inv = sym (inv ∙ rw (drop_of_length-le a h, drop_of_length-le b k))
eq_list-end a b i false h k inv = sym inv

-- ---- for theorems: tests of two lists whose elements answer alike

pub every-same : {A B : Type 0} (f : A → Bool) (g : B → Bool) (l : List A) (m : List B) (d : A) (e : B) → length l ≡ length m
    → ((i : ℕ) → i < length l → f (get_or l i d) ≡ g (get_or m i e)) → every f l ≡ every g m
unfolding every
every-same f g [] [] d e h q = refl
every-same f g [] (y ∷ m) d e h q = absurd (omega arith)
every-same f g (x ∷ l) [] d e h q = absurd (omega arith)
every-same f g (x ∷ l) (y ∷ m) d e h q = rw (q 0 (omega arith), every-same f g l m d e (omega arith) (λ i k. q (suc i) (omega arith)))

pub pairwise-same : {A B : Type 0} (f : A → A → Bool) (g : B → B → Bool) (l : List A) (m : List B) (d : A) (e : B) → length l ≡ length m
    → ((i j : ℕ) → i < j → j < length l → f (get_or l i d) (get_or l j d) ≡ g (get_or m i e) (get_or m j e)) → pairwise f l ≡ pairwise g m
unfolding pairwise
pairwise-same f g [] [] d e h q = refl
pairwise-same f g [] (y ∷ m) d e h q = absurd (omega arith)
pairwise-same f g (x ∷ l) [] d e h q = absurd (omega arith)
pairwise-same f g (x ∷ l) (y ∷ m) d e h q =
    rw (
      every-same (f x) (g y) l m d e (omega arith) (λ i k. q 0 (suc i) (omega arith) (omega arith)),
      pairwise-same f g l m d e (omega arith) (λ i j k n. q (suc i) (suc j) (omega arith) (omega arith)),
    )

pub every-all : {A : Type 0} (f : A → Bool) (l : List A) (d : A) → ((i : ℕ) → i < length l → f (get_or l i d) ≡ true) → every f l ≡ true
unfolding every
every-all f [] d q = refl
every-all f (x ∷ l) d q = rw (q 0 (omega arith), every-all f l d (λ i k. q (suc i) (omega arith)))

-- ---- the first element that passes

pub first_next : {A : Type 0} (f : A → Bool) (l : List A) (i : ℕ) (d : A) → i < length l → first_at f i (drop i l) ≡ cond (f (get_or l i d)) (Some i) (first_at f (i + 1) (drop (i + 1) l))
unfolding first_at
first_next f l i d h = rw (add-one, drop-cons l i d h)

module _ {A : Type 0} (f : A → Bool) (l : List A) (d : A) {b : Option ℕ} where
  pub first-stop : (i : ℕ) (r : Bool) → i < length l → r ≡ f (get_or l i d) → r ≡ true → b ≡ first_at f i (drop i l) → Some i ≡ b
  first-stop i r h e n inv =
      let z : f (get_or l i d) ≡ true = sym e ∙ n in
      sym (inv ∙ first_next f l i d h ∙ ap (λ (t : Bool). cond t (Some i) (first_at f (i + 1) (drop (i + 1) l))) z)

  pub first-go : (i : ℕ) (r : Bool) → i < length l → r ≡ f (get_or l i d) → r ≡ false → b ≡ first_at f i (drop i l) → b ≡ first_at f (i + 1) (drop (i + 1) l)
  first-go i r h e n inv =
      let z : f (get_or l i d) ≡ false = sym e ∙ n in
      inv ∙ first_next f l i d h ∙ ap (λ (t : Bool). cond t (Some i) (first_at f (i + 1) (drop (i + 1) l))) z

  pub first-end : (i : ℕ) → length l ≤ i → b ≡ first_at f i (drop i l) → None ≡ b
  unfolding first_at
  first-end i h inv = sym (inv ∙ ap (λ (x : List A). first_at f i x) (drop_of_length-le l h))
