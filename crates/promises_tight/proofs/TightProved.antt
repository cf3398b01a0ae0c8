-- What Tight states, proved. Assumes nothing.
use mathlib.Core.Path.{◌≡◌, refl, sym, ◌∙◌}
use mathlib.Core.List.{List, [], ◌∷◌}
use Prim.Native.Nat.{ℕ}
use Rattle.card.specs.declared.Answer.{Answer}
use Rattle.card.proofs.AnswerLaws.{counted-one, uncounted-one, number-in-one, reported-one, lined-one}
use Rattle.store.specs.Given.{Outcome}
use Rattle.store.specs.Mount.{Ended, IsEnded}
use Rattle.store.proofs.GivenLaws.{mounted-one, synced-one, unmounted-one, room-one}
use Rattle.host_crossing.specs.Crossing.{IsMounted, IsKept, IsKeptNumber}
use Rattle.promises_tight.specs.Tight.{Contracts}

two : {A : Type 0} {x y d : A} {s t b : List ℕ} → (x ≡ d) × (s ≡ b) → (y ≡ d) × (t ≡ b) → (x ≡ y) × ((s ∷ []) ≡ (t ∷ []))
two p q = (p.0 ∙ sym q.0, λ i. (p.1 ∙ sym q.1) i ∷ [])

-- by what a result gives, where no two give the same
module _ {A B : Type 0} {f : A → B} (same : (x y : A) → f x ≡ f y → x ≡ y) {x y : A} where
  one-by : {d : B} → f x ≡ d → f y ≡ d → (x ≡ y) × (◌≡◌ {A = List (List ℕ)} [] [])
  one-by p q = (same x y (p ∙ sym q), refl)

  two-by : {d : B} {s t b : List ℕ} → (f x ≡ d) × (s ≡ b) → (f y ≡ d) × (t ≡ b) → (x ≡ y) × ((s ∷ []) ≡ (t ∷ []))
  two-by p q = (same x y (p.0 ∙ sym q.0), λ i. (p.1 ∙ sym q.1) i ∷ [])

-- answer, session and both images
ended : {A : Type 0} {f : A → Outcome} → ((x y : A) → f x ≡ f y → x ≡ y) → {x y : A} {s t s' t' : List ℕ} {e : Ended} → IsEnded (f x) s s' e → IsEnded (f y) t t' e
    → (x ≡ y) × ((s ∷ s' ∷ []) ≡ (t ∷ t' ∷ []))
ended same {x} {y} p q = (
  same x y (λ i. record { answer = (p.answer ∙ sym q.answer) i; session = (p.session ∙ sym q.session) i }),
  λ i. (p.card ∙ sym q.card) i ∷ (p.work ∙ sym q.work) i ∷ [],
)

-- number or answer, the session's bytes and both images
mounted : {x y : ℕ} {s t s' t' s'' t'' : List ℕ} {e : Ended} → IsMounted x s s' s'' e → IsMounted y t t' t'' e → (x ≡ y) × ((s ∷ s' ∷ s'' ∷ []) ≡ (t ∷ t' ∷ t'' ∷ []))
mounted p q = (
  p.number ∙ sym q.number,
  λ i. (p.bytes ∙ sym q.bytes) i ∷ (p.card ∙ sym q.card) i ∷ (p.work ∙ sym q.work) i ∷ [],
)

kept : {x y : Answer} {s t s' t' s'' t'' b : List ℕ} {e : Ended} → IsKept x s s' s'' b e → IsKept y t t' t'' b e → (x ≡ y) × ((s ∷ s' ∷ s'' ∷ []) ≡ (t ∷ t' ∷ t'' ∷ []))
kept p q = (
  p.answer ∙ sym q.answer,
  λ i. (p.bytes ∙ sym q.bytes) i ∷ (p.card ∙ sym q.card) i ∷ (p.work ∙ sym q.work) i ∷ [],
)

numbered : {x y : ℕ} {s t s' t' s'' t'' b : List ℕ} {e : Ended} → IsKeptNumber x s s' s'' b e → IsKeptNumber y t t' t'' b e → (x ≡ y) × ((s ∷ s' ∷ s'' ∷ []) ≡ (t ∷ t' ∷ t'' ∷ []))
numbered p q = (
  p.number ∙ sym q.number,
  λ i. (p.bytes ∙ sym q.bytes) i ∷ (p.card ∙ sym q.card) i ∷ (p.work ∙ sym q.work) i ∷ [],
)

pub contracts : Contracts
contracts =
    record {
      of_make = λ κs a. (tt, λ x y s t p q. two-by uncounted-one p q);
      of_mount = λ κs a. (tt, λ x y s t p q. ended mounted-one p q);
      of_mount_tests = λ κs a. (tt, λ x y s t p q. one-by number-in-one p q);
      of_put = λ κs a. (tt, λ x y s t p q. two-by uncounted-one p q);
      of_put_at = λ κs a. (tt, λ x y s t p q. two-by uncounted-one p q);
      of_remove = λ κs a. (tt, λ x y s t p q. two-by uncounted-one p q);
      of_get = λ κs a. (tt, λ x y s t p q. two-by counted-one p q);
      of_free = λ κs a. (tt, λ x y s t p q. one-by room-one p q);
      of_line = λ κs a. (tt, λ x y s t p q. one-by lined-one p q);
      of_land = λ κs a. (tt, λ x y s t p q. two-by uncounted-one p q);
      of_sync = λ κs a. (tt, λ x y s t p q. ended (synced-one a.0) p q);
      of_unmount = λ κs a. (tt, λ x y s t p q. ended (unmounted-one a.0) p q);
      of_read = λ κs a. (tt, λ x y s t p q. one-by reported-one p q);
      of_read_line = λ κs a. (tt, λ x y s t p q. one-by lined-one p q);
      of_read_get = λ κs a. (tt, λ x y s t p q. two-by counted-one p q);
      of_store_make = λ κs a. (tt, λ x y s t p q. two p q);
      of_store_read = λ κs a. (tt, λ x y s t p q. two p q);
      of_store_read_get = λ κs a. (tt, λ x y s t p q. two p q);
      of_store_mount = λ κs a. (tt, λ x y s t p q. mounted p q);
      of_store_put = λ κs a. (tt, λ x y s t p q. two p q);
      of_store_put_at = λ κs a. (tt, λ x y s t p q. two p q);
      of_store_remove = λ κs a. (tt, λ x y s t p q. two p q);
      of_store_get = λ κs a. (tt, λ x y s t p q. two p q);
      of_store_free = λ κs a. (tt, λ x y s t p q. two p q);
      of_store_sync = λ κs a. (tt, λ x y s t p q. numbered p q);
      of_store_sync_count = λ κs a. (tt, λ x y s t p q. kept p q);
      of_store_unmount = λ κs a. (tt, λ x y s t p q. kept p q);
      of_store_land = λ κs a. (tt, λ x y s t p q. two p q);
      of_store_mount_steps = λ κs a. (tt, λ x y s t p q. two p q);
      of_store_sync_steps = λ κs a. (tt, λ x y s t p q. two p q);
      of_store_unmount_steps = λ κs a. (tt, λ x y s t p q. two p q);
    }
