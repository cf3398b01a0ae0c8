-- A call's tests and then its first steps alone, so that the power can be cut inside it: "after k steps the card is proved to be the old card with the
-- first k writes of that list done". Nothing but the card changes, and a refusal changes nothing. Assumes nothing.
use Rattle.std.specs.Prelude.{not, List, [], ℕ, take, Some, None}
use Rattle.sectors.specs.Sectors.{Step, apply_steps}
use Rattle.card.specs.Plan.{Plan, guard, ended, go_ahead, refused, done, Changed}
use Rattle.session.specs.Session.{Session}
use Rattle.store.specs.Steps.{mount_steps, sync_steps, unmount_steps, synced_at, down_at, written_at, counted_at}
use Rattle.store.specs.Mount.{mount_plan}
use Rattle.store.specs.Sync.{both_plan}

-- by a call's plan: its refusal and the card as lent, or the first n steps of a list, and w sectors counted
unfoldable pub first_of : Plan → List ℕ → ℕ → List Step → ℕ → Changed
first_of p card n steps w = ended p (λ k. record { answer = refused k; image = card }) (λ j a. record { answer = done w; image = apply_steps (take n steps) card })

-- "mount 1, 2, 3", then its first k steps
unfoldable pub mount_first : List ℕ → List ℕ → ℕ → Changed
mount_first card work k = first_of (mount_plan card work) card k (mount_steps card) 0

-- "sync 4, 1, 2, 9", then those of its steps that stand at its first k places, and how many sectors they write
unfoldable pub sync_first : Session → List ℕ → List ℕ → ℕ → Changed
sync_first None card work k = record { answer = refused 4; image = card }
sync_first (Some s) card work k =
    first_of (both_plan s card work (guard 9 (not s.worn) go_ahead)) card (synced_at s card work k) (sync_steps s card work []) (written_at s card work k)

-- "unmount 4, 1, 2", then those of its steps that stand at its first k places, and how many sectors its sync writes there
unfoldable pub unmount_first : Session → List ℕ → List ℕ → ℕ → Changed
unmount_first None card work k = record { answer = refused 4; image = card }
unmount_first (Some s) card work k =
    first_of (both_plan s card work go_ahead) card (down_at s card work k) (unmount_steps s card work) (counted_at s.worn s card work k)
