-- A call's first steps by its plan, and those of a mount that is refused. Assumes nothing.
use mathlib.Core.Path.{◌≡◌, refl, ap}
use mathlib.Core.List.{List}
use mathlib.Core.Logic.{◌≢◌}
use Prim.Native.Nat.{ℕ}
use lib.ListN.{take}
use Rattle.sectors.specs.declared.Sector.{Sector}
use Rattle.sectors.specs.Sectors.{Step, apply_steps}
use Rattle.card.specs.declared.Answer.{Answer}
use Rattle.card.specs.Plan.{Plan, refuse, do_it, ended, refused, done}
use Rattle.store.specs.Steps.{mount_steps}
use Rattle.store.specs.Mount.{plan_number, mount_plan}
use Rattle.store.proofs.Plans.{number-stop}
use Rattle.store.proofs.CallLaws.{Leaves, leaves}
use Rattle.host_crossing.specs.FirstSteps.{first_of, mount_first}

-- ---- the first steps by the plan

first-stop : {p : Plan} (card : List ℕ) (n : ℕ) (steps : List Step) (w k : ℕ) {r : Answer} → p ≡ refuse k → r ≡ refused k → Leaves (first_of p card n steps w) r card
unfolding first_of ended
first-stop card n steps w k e f = leaves _ (ap (λ (p : Plan). first_of p card n steps w) e) f refl

first_done : {p : Plan} (card : List ℕ) (n : ℕ) (steps : List Step) (w : ℕ) {j : ℕ} {a : Sector} {r : Answer} {x : List ℕ} → p ≡ do_it j a → r ≡ done w → x ≡ apply_steps (take n steps) card
    → Leaves (first_of p card n steps w) r x
unfolding first_of ended
first_done card n steps w e f h = leaves _ (ap (λ (p : Plan). first_of p card n steps w) e) f h

-- ---- mount

pub mount-first-stop : (card work : List ℕ) (k : ℕ) {n : ℕ} {r : Answer} → n ≡ plan_number (mount_plan card work) → n ≢ 0 → r ≡ refused n
    → (r ≡ (mount_first card work k).answer) × (card ≡ (mount_first card work k).image)
unfolding mount_first
mount-first-stop card work k e h f = first-stop card k (mount_steps card) 0 _ (number-stop _ e h) f
