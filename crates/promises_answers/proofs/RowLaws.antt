-- A plan follows its rows: one test, one row, in order. Assumes nothing.
use Rattle.std.specs.Prelude.{Option, Some, None}
use mathlib.Core.Path.{◌≡◌, refl, sym, ◌∙◌, subst}
use mathlib.Core.Bool.{Bool, true, false, not, ◌&&◌}
use mathlib.Core.List.{List, [], ◌∷◌}
use mathlib.Core.Logic.{◌⊎◌, inl, inr, ◌≢◌, ◌↔◌}
use Prim.Native.Nat.{ℕ, ◌≤◌, ◌<◌}
use native.Mathlib.Omega.{arith}
use borrow.Author.Tests.{not-true, not-false, eqb-true, eqb-false, leb-true, leb-false, ltb-true, ltb-false}
use lib.Dec.{leb, ltb, eqb}
use Rattle.words.proofs.BoolLaws.{falsum, both, never}
use Rattle.sectors.specs.declared.Sector.{Sector}
use Rattle.card.specs.Plan.{Plan, refuse, do_it, guard, need, ended}
use Rattle.session.specs.declared.Opened.{Opened}
use Rattle.promises_answers.specs.Numbers.{Row, row, Gives, Exactly, closed}

-- ---- rows

-- the rows determine the number
pub gives_one : (rows : List Row) (k m : ℕ) → Gives rows k → Gives rows m → k ≡ m
gives_one [] k m p q = p ∙ sym q
gives_one (r ∷ rows) k m (inl p) (inl q) = p.1 ∙ sym q.1
gives_one (r ∷ rows) k m (inl p) (inr q) = absurd (q.0 p.0)
gives_one (r ∷ rows) k m (inr p) (inl q) = absurd (p.0 q.0)
gives_one (r ∷ rows) k m (inr p) (inr q) = gives_one rows k m p.1 q.1

-- no row has a number above 11
abbrev pub small : List Row → Bool
small [] = true
small (r ∷ rows) = leb r.number 11 && small rows

pub at_most : (rows : List Row) (k : ℕ) → small rows ≡ true → Gives rows k → k ≤ 11
at_most [] k s g = omega arith
at_most (r ∷ rows) k s (inl p) = omega (arith, leb-true r.number 11 (both (leb r.number 11) _ s).0, p.1)
at_most (r ∷ rows) k s (inr p) = at_most rows k (both (leb r.number 11) _ s).1 p.1

-- ---- plans

-- the number that a plan comes to
unfoldable pub number_of : Plan → ℕ
number_of (refuse k) = k
number_of (do_it j a) = 0

-- what a call's answer says is what its plan comes to
pub ended-number : {A : Type 0} (num : A → ℕ) (f : ℕ → A) (h : ℕ → Sector → A) → ((k : ℕ) → num (f k) ≡ k) → ((j : ℕ) (a : Sector) → num (h j a) ≡ 0)
    → (p : Plan) → num (ended p f h) ≡ number_of p
unfolding ended number_of
ended-number num f h r d (refuse k) = r k
ended-number num f h r d (do_it j a) = d j a

-- a plan that comes to the number of the first row that is due
pub record Follows (rows : List Row) (p : Plan) : Type 0 where
  pub gives : Gives rows (number_of p)

pub done-row : {j : ℕ} {a : Sector} → Follows [] (do_it j a)
unfolding number_of
done-row {j} {a} = record { gives = refl }

pub guard-row : (k : ℕ) (b : Bool) (p : Plan) (P : Type 0) (rows : List Row) → (b ≡ false → P) → (b ≡ true → ¬ P)
    → (b ≡ true → Follows rows p) → Follows (row k P ∷ rows) (guard k b p)
unfolding guard number_of
guard-row k true p P rows y n g = record { gives = inr (n refl, (g refl).gives) }
guard-row k false p P rows y n g = record { gives = inl (y refl, refl) }

pub need-row : (k : ℕ) (o : Option ℕ) (f : ℕ → Plan) (P : Type 0) (rows : List Row) → (o ≡ None → P) → ((i : ℕ) → o ≡ Some i → ¬ P)
    → ((i : ℕ) → o ≡ Some i → Follows rows (f i)) → Follows (row k P ∷ rows) (need k o f)
unfolding need number_of
need-row k None f P rows y n g = record { gives = inl (y refl, refl) }
need-row k (Some i) f P rows y n g = record { gives = inr (n i refl, (g i refl).gives) }

pub exactly : {rows : List Row} {p : Plan} {m : ℕ} → m ≡ number_of p → Follows rows p → Exactly m rows
exactly {rows} {p} {m} e g j = (λ q. subst (Gives rows) (sym e ∙ q) g.gives, λ h. e ∙ gives_one rows (number_of p) j g.gives h)

-- ---- tests

pub clash : {b : Bool} {P : Type 0} → b ≡ true → b ≡ false → P
clash {b} {P} p q = falsum (sym q ∙ p)

-- a test that holds exactly when P does: the row is due when P does not
pub means-row : (k : ℕ) (b : Bool) (p : Plan) {P : Type 0} (rows : List Row) → (b ≡ true) ↔ P → (b ≡ true → Follows rows p) → Follows (row k (¬ P) ∷ rows) (guard k b p)
means-row k b p {P} rows m g = guard-row k b p (¬ P) rows (λ e x. clash (m.1 x) e) (λ e n. n (m.0 e)) g

-- a test that must fail
pub not-row : (k : ℕ) (b : Bool) (p : Plan) (rows : List Row) → (b ≡ false → Follows rows p) → Follows (row k (b ≡ true) ∷ rows) (guard k (not b) p)
not-row k b p rows g = guard-row k (not b) p (b ≡ true) rows (λ e. not-false b e) (λ e q. clash q (not-true b e)) (λ e. g (not-true b e))

pub and-fails : (a b : Bool) → (a && b) ≡ false → (a ≡ false) ⊎ (b ≡ false)
and-fails true b h = inr h
and-fails false b h = inl refl

-- a length that has to be another number
pub eq-row : (k x y : ℕ) (p : Plan) (rows : List Row) → (x ≡ y → Follows rows p) → Follows (row k (x ≢ y) ∷ rows) (guard k (eqb x y) p)
eq-row k x y p rows g = guard-row k (eqb x y) p (x ≢ y) rows (λ e. eqb-false x y e) (λ e o. o (eqb-true x y e)) (λ e. g (eqb-true x y e))

pub le-row : (k x y : ℕ) (p : Plan) (rows : List Row) → (x ≤ y → Follows rows p) → Follows (row k (y < x) ∷ rows) (guard k (leb x y) p)
le-row k x y p rows g =
    guard-row k (leb x y) p (y < x) rows (λ e. leb-false x y e) (λ e o. omega (arith, leb-true x y e)) (λ e. g (leb-true x y e))

pub lt-row : (k x y : ℕ) (p : Plan) (rows : List Row) → (x < y → Follows rows p) → Follows (row k (y ≤ x) ∷ rows) (guard k (ltb x y) p)
lt-row k x y p rows g =
    guard-row k (ltb x y) p (y ≤ x) rows (λ e. ltb-false x y e) (λ e o. omega (arith, ltb-true x y e)) (λ e. g (ltb-true x y e))

-- 4: a closed session, and an open one
pub closed-row : {rows : List Row} → Follows (closed None ∷ rows) (refuse 4)
unfolding number_of
closed-row {rows} = record { gives = inl (refl, refl) }

pub open_row : (s : Opened) {rows : List Row} {p : Plan} → Follows rows p → Follows (closed (Some s) ∷ rows) p
open_row s {rows} {p} g = record { gives = inr (λ e. never (cc), g.gives) }
