-- What the numbers of mount's tests and of sync's say: the refusal that mount answers, or what the steps ask; and the tests 1 and 2. Assumes nothing.
use Rattle.std.specs.Prelude.{None}
use mathlib.Core.Path.{◌≡◌, ◌∙◌}
use mathlib.Core.Bool.{true}
use mathlib.Core.List.{List}
use mathlib.Core.Logic.{◌≢◌}
use Prim.Native.Nat.{ℕ, ◌*◌}
use borrow.Author.Tests.{eq-eqb, eqb-true}
use lib.ListN.{length}
use Rattle.card.specs.Plan.{Plan, refuse, ended, refused}
use Rattle.card.proofs.PlanLaws.{ahead!, guard-yes, guard-inv, guard-num}
use Rattle.session.specs.declared.Opened.{Opened}
use Rattle.session.specs.Fits.{fits}
use Rattle.store.specs.Given.{Outcome}
use Rattle.store.specs.Mount.{IsEnded, plan_number, mount_plan, mount}
use Rattle.store.specs.Sync.{both_plan}
use Rattle.store.specs.Inner.{CanMount, fitting_plan}
use Rattle.store.proofs.Plans.{number-stop, number-go, mount-num, mount-good, mount-few, mount-same}
use Rattle.store.proofs.WriteLaws.{can-mount}

module _ (card work : List ℕ) {n : ℕ} (e : n ≡ plan_number (mount_plan card work)) where
  pub mount-stop : {r : Outcome} → n ≢ 0 → (r.answer ≡ refused n) × (r.session ≡ None) → IsEnded r card work (mount card work)
  unfolding mount ended
  mount-stop h f =
      let p : mount_plan card work ≡ refuse n = number-stop _ e h in
      record { answer = rw p f.0; session = rw p f.1; card = rw p; work = rw p }

  pub mount-can : n ≡ 0 → CanMount card × (length work ≡ length card)
  mount-can z =
      let (j, a, q) = number-go (mount-num card work) e z in
      let (x, y) = mount-good card work j a q in
      (can-mount card x y (mount-few card work j a q), mount-same card work j a q)

pub number-sized : (s : Opened) (card : List ℕ) {n : ℕ} → n ≡ plan_number (fitting_plan s card) → n ≡ 0 → length card ≡ 512 * s.geo.s
unfolding fitting_plan
number-sized s card e z = let (j, a, q) = number-go (guard-num 0 _ (guard-num 8 _ ahead!)) e z in eqb-true _ _ (guard-inv 1 _ _ q).0

-- ---- the tests 1 and 2 of land, sync and unmount

module _ (s : Opened) (card work : List ℕ) (p : Plan) where
  pub both_ok : length card ≡ 512 * s.geo.s → fits s work ≡ true → both_plan s card work p ≡ p
  unfolding both_plan
  both_ok d z = guard-yes 1 _ (eq-eqb _ _ d) ∙ guard-yes 2 _ z
