-- Plans: a test that fails or passes, what one that goes through says of its tests, that a refusal's number is not 0, and what holds of the end. Assumes nothing.
use Rattle.std.specs.Prelude.{Option, Some, None}
use mathlib.Core.Path.{◌≡◌, refl, ap}
use mathlib.Core.Bool.{Bool, true, false}
use Prim.Native.Nat.{ℕ, suc}
use Rattle.words.proofs.BoolLaws.{never}
use Rattle.sectors.specs.declared.Sector.{Sector}
use Rattle.card.specs.Plan.{Plan, refuse, do_it, go_ahead, guard, need, ended}

pub guard-no : (k : ℕ) (p : Plan) {b : Bool} → b ≡ false → guard k b p ≡ refuse k
unfolding guard
guard-no k p e = ap (λ (b : Bool). guard k b p) e

pub guard-yes : (k : ℕ) (p : Plan) {b : Bool} → b ≡ true → guard k b p ≡ p
unfolding guard
guard-yes k p e = ap (λ (b : Bool). guard k b p) e

pub need-no : (k : ℕ) (f : ℕ → Plan) {x : Option ℕ} → x ≡ None → need k x f ≡ refuse k
unfolding need
need-no k f e = ap (λ (x : Option ℕ). need k x f) e

pub need-yes : (k : ℕ) (f : ℕ → Plan) {x : Option ℕ} {i : ℕ} → x ≡ Some i → need k x f ≡ f i
unfolding need
need-yes k f e = ap (λ (x : Option ℕ). need k x f) e

pub guard-inv : (k : ℕ) (b : Bool) (p : Plan) {j : ℕ} {a : Sector} → guard k b p ≡ do_it j a → (b ≡ true) × (p ≡ do_it j a)
unfolding guard
guard-inv k true p h = (refl, h)
guard-inv k false p {j} {a} h = never (cc)

pub need-inv : (k : ℕ) (o : Option ℕ) (f : ℕ → Plan) {j : ℕ} {a : Sector} → need k o f ≡ do_it j a → (i : ℕ) × (o ≡ Some i) × (f i ≡ do_it j a)
unfolding need
need-inv k None f {j} {a} h = never (cc)
need-inv k (Some i) f h = (i, refl, h)

-- a plan that refuses by a number above 0, or goes through
pub data Num : Plan → Type 0 where
  no! : (k : ℕ) → Num (refuse (suc k))
  go! : (j : ℕ) (a : Sector) → Num (do_it j a)

pub ahead! : Num go_ahead
ahead! = go! 0 _

pub guard-num : (k : ℕ) (b : Bool) {p : Plan} → Num p → Num (guard (suc k) b p)
unfolding guard
guard-num k true h = h
guard-num k false h = no! k

pub need-num : (k : ℕ) (o : Option ℕ) {f : ℕ → Plan} → ((i : ℕ) → Num (f i)) → Num (need (suc k) o f)
unfolding need
need-num k None h = no! k
need-num k (Some i) h = h i

-- what holds of every refusal and of what is done holds of the end
pub passing : {A : Type 0} (P : A → Type 0) (f : ℕ → A) (h : ℕ → Sector → A) {p : Plan} → Num p → ((k : ℕ) → P (f (suc k))) → ((j : ℕ) (a : Sector) → p ≡ do_it j a → P (h j a))
    → P (ended p f h)
unfolding ended
passing P f h (no! k) x y = x k
passing P f h (go! j a) x y = y j a refl
