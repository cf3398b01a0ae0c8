-- "A refusal returns its number and a zero count", and changes nothing: every image, session, output and table of lines is as lent. Assumes nothing.
use Rattle.std.specs.Prelude.{◌≡◌, List, ◌≢◌, ℕ, None}
use Rattle.counts.specs.declared.Geo.{Geo}
use Rattle.card.specs.declared.Line.{Line}
use Rattle.card.specs.Plan.{Changed, Got, Listed}
use Rattle.card.specs.Make.{make}
use Rattle.card.specs.Reading.{read, read_list, read_get}
use Rattle.session.specs.Session.{Session}
use Rattle.store.specs.Mount.{Ended, mount}
use Rattle.store.specs.Edit.{remove, put_at}
use Rattle.store.specs.Look.{get, list, free}
use Rattle.store.specs.Sync.{land, sync, unmount}

-- what a refused call leaves, by what it was lent
abbrev pub Same : Changed → List ℕ → Type 0
Same r image = (r.image ≡ image) × (r.answer.count ≡ 0)

abbrev pub SameOut : Got → List ℕ → Type 0
SameOut r out = (r.out ≡ out) × (r.answer.count ≡ 0)

abbrev pub SameLines : Listed → List Line → Type 0
SameLines r lines = (r.lines ≡ lines) × (r.answer.count ≡ 0)

abbrev pub SameBoth : Ended → Session → List ℕ → List ℕ → Type 0
SameBoth r s card work = (r.session ≡ s) × (r.card ≡ card) × (r.work ≡ work) × (r.answer.count ≡ 0)

pub record Refusals : Type 0 where
  pub of_make : (g : Geo) (card : List ℕ) → (make g card).answer.number ≢ 0 → Same (make g card) card
  pub of_mount : (card work : List ℕ) → (mount card work).answer.number ≢ 0 → SameBoth (mount card work) None card work
  pub of_put : (s : Session) (work n d : List ℕ) (goal : ℕ) → (put_at s work n d goal).answer.number ≢ 0 → Same (put_at s work n d goal) work
  pub of_remove : (s : Session) (work n : List ℕ) → (remove s work n).answer.number ≢ 0 → Same (remove s work n) work
  pub of_get : (s : Session) (work n out : List ℕ) → (get s work n out).answer.number ≢ 0 → SameOut (get s work n out) out
  pub of_list : (s : Session) (work : List ℕ) (lines : List Line) → (list s work lines).answer.number ≢ 0 → SameLines (list s work lines) lines
  pub of_free : (s : Session) (work : List ℕ) → (free s work).number ≢ 0 → ((free s work).free ≡ 0) × ((free s work).waiting ≡ 0)
  pub of_land : (s : Session) (card work : List ℕ) (i : ℕ) → (land s card work i).answer.number ≢ 0 → Same (land s card work i) card
  pub of_sync : (s : Session) (card work : List ℕ) → (sync s card work).answer.number ≢ 0 → SameBoth (sync s card work) s card work
  pub of_unmount : (s : Session) (card work : List ℕ) → (unmount s card work).answer.number ≢ 0 → SameBoth (unmount s card work) s card work
  pub of_read : (img : List ℕ) → (read img).number ≢ 0 → ((read img).c.0 ≡ 0) × ((read img).n ≡ 0) × ((read img).files ≡ 0) × ((read img).free ≡ 0)
  pub of_read_list : (img : List ℕ) (lines : List Line) → (read_list img lines).answer.number ≢ 0 → SameLines (read_list img lines) lines
  pub of_read_get : (img n out : List ℕ) → (read_get img n out).answer.number ≢ 0 → SameOut (read_get img n out) out
