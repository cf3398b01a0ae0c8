-- mount: "1, 2, 3". Assumes nothing.
use Rattle.std.specs.Prelude.{◌≡◌, false, ◌&&◌, List, ℕ, ◌+◌, length, get_or, ltb, eqb, Some, None}
use Rattle.sectors.specs.Sectors.{sec, apply_steps}
use Rattle.counts.specs.Geometry.{g_n, geo_of, count_of, table_of}
use Rattle.card.specs.declared.Answer.{Answer}
use Rattle.card.specs.Plan.{Plan, guard, ended, go_ahead, refused, done}
use Rattle.card.specs.Sound.{shape_ok, sound}
use Rattle.session.specs.declared.Opened.{Opened}
use Rattle.session.specs.Session.{Session}
use Rattle.store.specs.Given.{Outcome}
use Rattle.store.specs.Steps.{mount_steps}

-- what mount, sync and unmount leave: their answer, the session and both images
pub record Ended : Type 0 where
  pub answer : Answer
  pub session : Session
  pub card : List ℕ
  pub work : List ℕ

-- what such a call gives back, and the images after it, are what its definition leaves
pub record IsEnded (r : Outcome) (card' work' : List ℕ) (e : Ended) : Type 0 where
  pub answer : r.answer ≡ e.answer
  pub session : r.session ≡ e.session
  pub card : card' ≡ e.card
  pub work : work' ≡ e.work

-- the number of a plan: of the first test that fails, else 0
unfoldable pub plan_number : Plan → ℕ
plan_number p = ended p (λ k. k) (λ j a. 0)

-- "mount 1, 2, 3"
unfoldable pub mount_plan : List ℕ → List ℕ → Plan
mount_plan card work =
    guard 1 (shape_ok card && eqb (length work) (length card))
    (guard 2 (sound card) (guard 3 (ltb (count_of (sec card)) (g_n (geo_of (sec card)))) go_ahead))

-- "The session has c = the old C and t = table word c, plus 1."
unfoldable pub opened_from : List ℕ → Opened
opened_from card =
    record {
      geo = geo_of (sec card);
      c = record { 0 = count_of (sec card) };
      t = record { 0 = get_or (table_of (geo_of (sec card)) (sec card)) (count_of (sec card)) 0 + 1 };
      worn = false;
    }

-- "Mount writes C + 1 to sector 0 of the card, then copies the card to the working image."
unfoldable pub mount_done : List ℕ → Ended
mount_done card =
    let k = apply_steps (mount_steps card) card in
    record { answer = done 0; session = Some (opened_from card); card = k; work = k }

-- "a refused mount returns a closed session"
unfoldable pub mount : List ℕ → List ℕ → Ended
mount card work =
    ended (mount_plan card work) (λ k. record { answer = refused k; session = None; card = card; work = work }) (λ j a. mount_done card)
