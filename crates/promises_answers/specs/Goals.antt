-- What a goal does to put, and what it does not: "the first fitting run at or after it, else the lowest. Goal 0 is today's rule". Assumes nothing.
use Rattle.std.specs.Prelude.{◌≡◌, List, ℕ, ◌≤◌, ◌<◌, length, Some}
use Rattle.sectors.specs.declared.Sector.{Sector}
use Rattle.entries.specs.Entries.{sectors_for}
use Rattle.card.specs.Plan.{do_it}
use Rattle.session.specs.declared.Opened.{Opened}
use Rattle.session.specs.Session.{Session}
use Rattle.store.specs.Edit.{put_plan, put_at, put}
use Rattle.promises_answers.specs.Places.{FreeFrom}

pub record Goals : Type 0 where
  -- "calls without a goal keep it"
  pub without : (s : Session) (work n d : List ℕ) → put s work n d ≡ put_at s work n d 0
  -- "Goal 0 is today's rule": the lowest run of all
  pub zero : (s : Opened) (work n d : List ℕ) (j : ℕ) (a : Sector) → put_plan s work n d 0 ≡ do_it j a → 1 ≤ sectors_for (length d)
      → (t : ℕ) → FreeFrom s work (sectors_for (length d)) t → a.0 ≤ t
  -- the place is at or after the goal whenever any fitting run is
  pub after : (s : Opened) (work n d : List ℕ) (goal j : ℕ) (a : Sector) → put_plan s work n d goal ≡ do_it j a → 1 ≤ sectors_for (length d)
      → (t : ℕ) → goal ≤ t → FreeFrom s work (sectors_for (length d)) t → goal ≤ a.0
  -- whether put gives 8 does not depend on the goal
  pub room : (s : Opened) (work n d : List ℕ) (goal other : ℕ) → other < s.geo.s → (put_at (Some s) work n d goal).answer.number ≡ 8
      → (put_at (Some s) work n d other).answer.number ≡ 8
