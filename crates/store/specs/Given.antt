-- What a call of a session gives back: its answer and the session that it leaves, or the figures of free. Assumes nothing.
use Rattle.std.specs.Prelude.{ℕ, Some, None, Result, Ok, Err}
use Rattle.card.specs.declared.Answer.{Answer}
use Rattle.card.specs.declared.Refusal.{Refusal}
use Rattle.card.specs.Answers.{number_of}
use Rattle.card.specs.Plan.{refused, done}
use Rattle.session.specs.declared.Opened.{Opened}
use Rattle.session.specs.Session.{Session}
use Rattle.store.specs.declared.Figures.{Figures}
use Rattle.store.specs.declared.Synced.{Synced}

-- what mount, sync and unmount give back: the answer and the session
pub record Outcome : Type 0 where
  pub answer : Answer
  pub session : Session

-- what free gives back: the number, the sectors clear in both views, and those that the next sync releases
pub record Room : Type 0 where
  pub number : ℕ
  pub free : ℕ
  pub waiting : ℕ

-- "a refused mount returns a closed session"
abbrev pub mounted_of : Result Opened Refusal → Outcome
mounted_of (Ok s) = record { answer = done 0; session = Some s }
mounted_of (Err r) = record { answer = refused (number_of r); session = None }

-- sync: with 0 the session grown and its writes counted, else the session as it was
abbrev pub synced_of : Session → Result Synced Refusal → Outcome
synced_of s (Ok y) = record { answer = done y.written; session = Some y.session }
synced_of s (Err r) = record { answer = refused (number_of r); session = s }

-- unmount: with 0 the session closed and the writes of its sync counted, else the session as it was
abbrev pub unmounted_of : Session → Result ℕ Refusal → Outcome
unmounted_of s (Ok n) = record { answer = done n; session = None }
unmounted_of s (Err r) = record { answer = refused (number_of r); session = s }

-- free: both figures, and zeros beside a refusal's number
abbrev pub room_of : Result Figures Refusal → Room
room_of (Ok f) = record { number = 0; free = f.free; waiting = f.waiting }
room_of (Err r) = record { number = number_of r; free = 0; waiting = 0 }
