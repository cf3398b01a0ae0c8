-- Past the last place there is none: a walk to a later one ends there. Assumes nothing.
use mathlib.Core.Path.{◌≡◌}
use mathlib.Core.List.{List}
use Prim.Native.Nat.{ℕ, ◌≤◌, ◌<◌, min}
use native.Mathlib.Omega.{arith}
use lib.ListN.{length, take}
use Rattle.std.proofs.lemmas.Grind.{common_steps}
use Rattle.sectors.specs.Sectors.{sec, Step, apply_steps}
use Rattle.sectors.proofs.SectorLaws.{steps-turn}
use Rattle.counts.specs.Geometry.{g_n, count_of}
use Rattle.store.specs.Steps.{mount_steps}
use Rattle.store.specs.Inner.{CanMount}
use Rattle.store.proofs.WriteLaws.{count-here, mount-write, mount-still, mount-same, mount-begins}

pub first-places : (l : List Step) (k n : ℕ) {i : ℕ} → length l ≤ n → i ≡ min k n → take i l ≡ take k l
first-places l k n h e = grind (arith, common_steps)

-- mount has two
pub mount-two : (card : List ℕ) (k i : ℕ) → i ≡ min k 2 → take i (mount_steps card) ≡ take k (mount_steps card)
unfolding mount_steps
mount-two card k i e = first-places _ k 2 (omega arith) e

-- before the first the card is the old one
pub count-begins : (card₀ card : List ℕ) (k : ℕ) → card ≡ apply_steps (take k (mount_steps card₀)) card₀ → CanMount card₀ → k ≡ 0 → count_of (sec card) < 65536
unfolding g_n
count-begins card₀ card k e M z = let m = mount-begins card₀ card k e M z in omega (arith, m.count, m.laid.t)

-- what the functions' proofs use
pub ruleset mounting = (count-here, mount-write, mount-still, mount-same, count-begins, steps-turn, mount-two)
