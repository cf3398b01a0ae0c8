-- Demand 2 for the calls that change: put and remove answer as a plain list of names with contents does. Assumes nothing.
use Rattle.std.specs.Prelude.{◌≡◌, List, ℕ}
use Rattle.session.specs.Session.{Session}
use Rattle.store.specs.Edit.{put_at, remove}
use Rattle.promises_answers.specs.PlainList.{without, With, shown_in}

-- "put": the name's content is replaced or added, all others stay in their order
abbrev pub PutAnswers : Type 0
PutAnswers = (s : Session) (work n d : List ℕ) (goal : ℕ) → (put_at s work n d goal).answer.number ≡ 0 → With n d (shown_in s work) (shown_in s (put_at s work n d goal).image)

-- "remove": the name is gone, all others stay in their order
abbrev pub RemoveAnswers : Type 0
RemoveAnswers = (s : Session) (work n : List ℕ) → (remove s work n).answer.number ≡ 0 → shown_in s (remove s work n).image ≡ without n (shown_in s work)
