-- No call of a history answers 2, and every number is one of 0 to 11: stated. Assumes nothing.
use Rattle.std.specs.Prelude.{List, ◌≢◌, ℕ, ◌≤◌}
use Rattle.counts.specs.declared.Geo.{Geo}
use Rattle.card.specs.declared.Line.{Line}
use Rattle.card.specs.Make.{make}
use Rattle.card.specs.Reading.{read, read_list, read_get}
use Rattle.session.specs.Session.{Session}
use Rattle.store.specs.Mount.{mount}
use Rattle.store.specs.Edit.{put_at, remove}
use Rattle.store.specs.Look.{get, list, free}
use Rattle.store.specs.Sync.{land, sync, unmount}
use Rattle.promises_crash.specs.History.{World}

-- in a history: the session's calls, whatever they are lent besides, and mount and reading of the card
pub record NoTwo (w : World) : Type 0 where
  pub of_put : (n d : List ℕ) (goal : ℕ) → (put_at w.session w.work n d goal).answer.number ≢ 2
  pub of_remove : (n : List ℕ) → (remove w.session w.work n).answer.number ≢ 2
  pub of_get : (n out : List ℕ) → (get w.session w.work n out).answer.number ≢ 2
  pub of_list : (lines : List Line) → (list w.session w.work lines).answer.number ≢ 2
  pub of_free : (free w.session w.work).number ≢ 2
  pub of_land : (card : List ℕ) (i : ℕ) → (land w.session card w.work i).answer.number ≢ 2
  pub of_sync : (card : List ℕ) → (sync w.session card w.work).answer.number ≢ 2
  pub of_unmount : (card : List ℕ) → (unmount w.session card w.work).answer.number ≢ 2
  pub of_mount : (work : List ℕ) → (mount w.card work).answer.number ≢ 2
  pub of_read : (read w.card).number ≢ 2
  pub of_read_list : (lines : List Line) → (read_list w.card lines).answer.number ≢ 2
  pub of_read_get : (n out : List ℕ) → (read_get w.card n out).answer.number ≢ 2

-- the numbers of the table: 0 to 11
pub record InTable : Type 0 where
  pub of_make : (g : Geo) (card : List ℕ) → (make g card).answer.number ≤ 11
  pub of_mount : (card work : List ℕ) → (mount card work).answer.number ≤ 11
  pub of_put : (s : Session) (work n d : List ℕ) (goal : ℕ) → (put_at s work n d goal).answer.number ≤ 11
  pub of_remove : (s : Session) (work n : List ℕ) → (remove s work n).answer.number ≤ 11
  pub of_get : (s : Session) (work n out : List ℕ) → (get s work n out).answer.number ≤ 11
  pub of_list : (s : Session) (work : List ℕ) (lines : List Line) → (list s work lines).answer.number ≤ 11
  pub of_free : (s : Session) (work : List ℕ) → (free s work).number ≤ 11
  pub of_land : (s : Session) (card work : List ℕ) (i : ℕ) → (land s card work i).answer.number ≤ 11
  pub of_sync : (s : Session) (card work : List ℕ) → (sync s card work).answer.number ≤ 11
  pub of_unmount : (s : Session) (card work : List ℕ) → (unmount s card work).answer.number ≤ 11
  pub of_read : (img : List ℕ) → (read img).number ≤ 11
  pub of_read_list : (img : List ℕ) (lines : List Line) → (read_list img lines).answer.number ≤ 11
  pub of_read_get : (img n out : List ℕ) → (read_get img n out).answer.number ≤ 11
