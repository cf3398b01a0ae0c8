-- No two results of a call give one outcome, nor one pair of figures. Assumes nothing.
use Rattle.std.specs.Prelude.{Some, None, Result, Ok, Err}
use Rattle.std.specs.Result.{result_ok}
use mathlib.Core.Path.{◌≡◌, refl, sym, ap, ◌∙◌}
use Prim.Native.Nat.{ℕ}
use Rattle.card.specs.declared.Refusal.{Refusal}
use Rattle.card.specs.Answers.{number_in}
use Rattle.card.specs.Plan.{refused, done}
use Rattle.card.proofs.AnswerLaws.{result-one}
use Rattle.session.specs.declared.Opened.{Opened}
use Rattle.session.specs.Session.{Session}
use Rattle.store.specs.declared.Figures.{Figures}
use Rattle.store.specs.declared.Synced.{Synced}
use Rattle.store.specs.Given.{Outcome, Room, mounted_of, synced_of, unmounted_of, room_of}

pub mounted_number : (r : Result Opened Refusal) → number_in r ≡ (mounted_of r).answer.number
unfolding refused done
mounted_number (Ok s) = refl
mounted_number (Err a) = refl

pub mounted_session : (r : Result Opened Refusal) → result_ok r ≡ (mounted_of r).session
mounted_session (Ok s) = refl
mounted_session (Err a) = refl

-- the session of a mount that is done
opened_in : Opened → Session → Opened
opened_in d (Some s) = s
opened_in d None = d

pub mounted-one : (r s : Result Opened Refusal) → mounted_of r ≡ mounted_of s → r ≡ s
unfolding opened_in
mounted-one r s h =
    result-one r s (mounted_number r ∙ ap (λ (o : Outcome). o.answer.number) h ∙ sym (mounted_number s))
    (λ x y e f. ap (λ (o : Outcome). opened_in x o.session) (sym (ap mounted_of e) ∙ h ∙ ap mounted_of f))

module _ (session : Session) where
  synced_number : (r : Result Synced Refusal) → number_in r ≡ (synced_of session r).answer.number
  unfolding refused done
  synced_number (Ok y) = refl
  synced_number (Err a) = refl

  pub synced-one : (r s : Result Synced Refusal) → synced_of session r ≡ synced_of session s → r ≡ s
  unfolding done opened_in
  synced-one r s h =
      result-one r s (synced_number r ∙ ap (λ (o : Outcome). o.answer.number) h ∙ sym (synced_number s))
      (λ x y e f. ap (λ (o : Outcome). record { session = opened_in x.session o.session; written = o.answer.count }) (sym (ap (synced_of session) e) ∙ h ∙ ap (synced_of session) f))

  unmounted_number : (r : Result ℕ Refusal) → number_in r ≡ (unmounted_of session r).answer.number
  unfolding refused done
  unmounted_number (Ok n) = refl
  unmounted_number (Err a) = refl

  pub unmounted-one : (r s : Result ℕ Refusal) → unmounted_of session r ≡ unmounted_of session s → r ≡ s
  unfolding done
  unmounted-one r s h =
      result-one r s (unmounted_number r ∙ ap (λ (o : Outcome). o.answer.number) h ∙ sym (unmounted_number s))
      (λ x y e f. ap (λ (o : Outcome). o.answer.count) (sym (ap (unmounted_of session) e) ∙ h ∙ ap (unmounted_of session) f))

room_number : (r : Result Figures Refusal) → number_in r ≡ (room_of r).number
room_number (Ok f) = refl
room_number (Err a) = refl

pub room-one : (r s : Result Figures Refusal) → room_of r ≡ room_of s → r ≡ s
room-one r s h =
    result-one r s (room_number r ∙ ap (λ (o : Room). o.number) h ∙ sym (room_number s))
    (λ x y e f. ap (λ (o : Room). record { free = o.free; waiting = o.waiting }) (sym (ap room_of e) ∙ h ∙ ap room_of f))
