-- Entries found by name: what the tests of names in two views say, and that no two entries have one name. Assumes nothing.
use mathlib.Core.Path.{◌≡◌, refl, sym, ◌∙◌}
use mathlib.Core.Bool.{Bool, true, false, not, ◌||◌}
use mathlib.Core.List.{List, [], ◌∷◌}
use mathlib.Core.Logic.{◌⊎◌, inl, inr, ⊎_elim, ◌≢◌}
use Prim.Native.Nat.{ℕ, zero, suc, ◌<◌}
use native.Mathlib.Decide.{ℕ_discrete, dec_lt}
use native.Mathlib.Omega.{arith}
use borrow.Author.Tests.{not-true}
use lib.ListN.{length, get_or, set, length-set}
use lib.Seq.{get_or-set_same, get_or-set_other}
use Rattle.words.specs.Lists.{every, pairwise, eq_list}
use Rattle.words.proofs.BoolLaws.{never, falsum, both, join}
use Rattle.words.proofs.EveryLaws.{every-at, every-all}
use Rattle.words.proofs.EveryMore.{eq_list-refl, eq_list-eq}
use Rattle.entries.specs.declared.Version.{Version}
use Rattle.entries.specs.declared.Version.TheVariants.{Absent, Present}
use Rattle.entries.specs.Entries.{shown, is_absent, name_of}
use Rattle.directory.specs.Directory.{gone, apart, named}

pub is-absent : (v : Version) → is_absent v ≡ true → v ≡ Absent
is-absent Absent h = refl
is-absent (Present r) h = falsum h

pub is-present : (v : Version) → v ≢ Absent → is_absent v ≡ false
is-present Absent h = absurd (h refl)
is-present (Present r) h = refl

pub present-is : (v : Version) → is_absent v ≡ false → v ≢ Absent
present-is Absent h = falsum (sym h)
present-is (Present r) h = λ e. never (cc)

module _ (tp tc : List ℕ) where
  -- absent in both views
  pub gone-true : (p : List ℕ) → gone tp tc p ≡ true → (shown tp p ≡ Absent) × (shown tc p ≡ Absent)
  unfolding gone
  gone-true p h = let (a, b) = both (is_absent (shown tp p)) (is_absent (shown tc p)) h in (is-absent _ a, is-absent _ b)

  pub gone-intro : (p : List ℕ) → shown tp p ≡ Absent → shown tc p ≡ Absent → gone tp tc p ≡ true
  unfolding gone
  gone-intro p a b = rw (a, b)

  -- present in one of them
  pub gone-false : (p : List ℕ) → gone tp tc p ≡ false → (shown tp p ≢ Absent) ⊎ (shown tc p ≢ Absent)
  unfolding gone
  gone-false p h = go (is_absent (shown tp p)) refl
    where
      go : (b : Bool) → is_absent (shown tp p) ≡ b → (shown tp p ≢ Absent) ⊎ (shown tc p ≢ Absent)
      go true e = let q : is_absent (shown tc p) ≡ false = rw e at h in inr (present-is _ q)
      go false e = inl (present-is _ e)

  pub here-gone : (p : List ℕ) → (shown tp p ≢ Absent) ⊎ (shown tc p ≢ Absent) → gone tp tc p ≡ false
  here-gone p h = go (gone tp tc p) refl
    where
      go : (b : Bool) → gone tp tc p ≡ b → b ≡ false
      go true e = let (x, y) = gone-true p e in ⊎_elim (λ q. absurd (q x)) (λ q. absurd (q y)) h
      go false e = refl

  -- a file of that name in one of them
  pub named-true : (n p : List ℕ) → named tp tc n p ≡ true → ((shown tp p ≢ Absent) ⊎ (shown tc p ≢ Absent)) × (name_of p ≡ n)
  unfolding named
  named-true n p h =
      let (a, b) = both (not (gone tp tc p)) (eq_list n (name_of p)) h in (gone-false p (not-true _ a), sym (eq_list-eq n (name_of p) b))

  pub named-intro : (n p : List ℕ) → (shown tp p ≢ Absent) ⊎ (shown tc p ≢ Absent) → name_of p ≡ n → named tp tc n p ≡ true
  unfolding named
  named-intro n p h e = rw (here-gone p h, e) (eq_list-refl n)

  -- no two entries that show a file, in either view, have one name
  apart-names : (p q : List ℕ) → apart tp tc p q ≡ true → gone tp tc p ≡ false → gone tp tc q ≡ false → name_of p ≢ name_of q
  unfolding apart
  apart-names p q h a b e =
      let z : eq_list (name_of p) (name_of q) ≡ true = rw e (eq_list-refl (name_of q)) in
      let y : (false || false || not true) ≡ true = rw (a, b, z) at h in
      falsum y

  pair-at : (ps : List (List ℕ)) (i j : ℕ) → pairwise (apart tp tc) ps ≡ true → i < j → j < length ps → apart tp tc (get_or ps i []) (get_or ps j []) ≡ true
  unfolding pairwise
  pair-at [] i j h l k = absurd (omega arith)
  pair-at (p ∷ ps) i zero h l k = absurd (omega arith)
  pair-at (p ∷ ps) zero (suc j) h l k = every-at (apart tp tc p) ps j [] (omega arith) (both (every (apart tp tc p) ps) _ h).0
  pair-at (p ∷ ps) (suc i) (suc j) h l k = pair-at ps i j (both (every (apart tp tc p) ps) _ h).1 (omega arith) (omega arith)

  -- "no name is present in either view of two entries"
  pub one_entry : (ps : List (List ℕ)) (i j : ℕ) → pairwise (apart tp tc) ps ≡ true → i < length ps → j < length ps
      → gone tp tc (get_or ps i []) ≡ false → gone tp tc (get_or ps j []) ≡ false → name_of (get_or ps i []) ≡ name_of (get_or ps j []) → i ≡ j
  one_entry ps i j h li lj a b e = go (dec_lt i j) (dec_lt j i)
    where
      go : Dec (i < j) → Dec (j < i) → i ≡ j
      go (yes l) d = absurd (apart-names (get_or ps i []) (get_or ps j []) (pair-at ps i j h l lj) a b e)
      go (no l) (yes m) = absurd (apart-names (get_or ps j []) (get_or ps i []) (pair-at ps j i h m li) b a (sym e))
      go (no l) (no m) = omega arith

  -- ---- one entry put in the place of another

  pair-all : (ps : List (List ℕ)) → ((i j : ℕ) → i < j → j < length ps → apart tp tc (get_or ps i []) (get_or ps j []) ≡ true) → pairwise (apart tp tc) ps ≡ true
  unfolding pairwise
  pair-all [] h = refl
  pair-all (p ∷ ps) h =
      join _ _ (every-all (apart tp tc p) ps [] (λ i l. h 0 (suc i) (omega arith) (omega arith))) (pair-all ps (λ i j a b. h (suc i) (suc j) (omega arith) (omega arith)))

  pub apart-set : (ps : List (List ℕ)) (j : ℕ) (x : List ℕ) → j < length ps → pairwise (apart tp tc) ps ≡ true
      → ((i : ℕ) → i < length ps → i ≢ j → (apart tp tc x (get_or ps i []) ≡ true) × (apart tp tc (get_or ps i []) x ≡ true)) → pairwise (apart tp tc) (set ps j x) ≡ true
  apart-set ps j x l h q = pair-all (set ps j x) (λ i i' a b. go i i' a (omega (arith, length-set ps j x)) (ℕ_discrete i j) (ℕ_discrete i' j))
    where
      go : (i i' : ℕ) → i < i' → i' < length ps → Dec (i ≡ j) → Dec (i' ≡ j) → apart tp tc (get_or (set ps j x) i []) (get_or (set ps j x) i' []) ≡ true
      go i i' a b (yes e) (yes f) = absurd (omega arith)
      go i i' a b (yes e) (no f) =
          rw (e, get_or-set_same ps j x [] l, get_or-set_other ps j i' x [] f) (q i' b f).0
      go i i' a b (no e) (yes f) =
          rw (f, get_or-set_same ps j x [] l, get_or-set_other ps j i x [] e) (q i (omega arith) e).1
      go i i' a b (no e) (no f) =
          rw (get_or-set_other ps j i x [] e, get_or-set_other ps j i' x [] f) (pair-at ps i i' h a b)

  -- an entry that does not show the name keeps apart from one that has it
  pub quiet-apart : (n x q : List ℕ) → name_of x ≡ n → named tp tc n q ≡ false → (apart tp tc x q ≡ true) × (apart tp tc q x ≡ true)
  unfolding named apart
  quiet-apart n x q e h = go (gone tp tc q) refl (eq_list n (name_of q)) refl
    where
      third : (a b : Bool) → (a || b || true) ≡ true
      third true true = refl
      third true false = refl
      third false true = refl
      third false false = refl

      second : (a b : Bool) → (a || true || b) ≡ true
      second true b = refl
      second false b = refl

      go : (b : Bool) → gone tp tc q ≡ b → (c : Bool) → eq_list n (name_of q) ≡ c
          → ((gone tp tc x || gone tp tc q || not (eq_list (name_of x) (name_of q))) ≡ true) × ((gone tp tc q || gone tp tc x || not (eq_list (name_of q) (name_of x))) ≡ true)
      go true f c g = (rw f (second (gone tp tc x) _), rw f)
      go false f true g = falsum (sym (rw (f, g) at h))
      go false f false g = (rw (e, g) (third (gone tp tc x) (gone tp tc q)), rw (e, back) (third (gone tp tc q) (gone tp tc x)))
        where
          back : eq_list (name_of q) n ≡ false
          back = turn (eq_list (name_of q) n) refl
            where
              turn : (t : Bool) → eq_list (name_of q) n ≡ t → t ≡ false
              turn true z = sym (sym g ∙ (rw (eq_list-eq (name_of q) n z) (eq_list-refl n)))
              turn false z = refl
