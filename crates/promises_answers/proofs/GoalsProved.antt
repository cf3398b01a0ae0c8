-- What Goals states, proved. Assumes nothing.
use Rattle.std.specs.Prelude.{Some}
use mathlib.Core.Path.{◌≡◌, refl}
use mathlib.Core.List.{List, ◌∷◌}
use mathlib.Core.Logic.{inl, inr}
use Prim.Native.Nat.{ℕ, ◌≤◌, ◌<◌}
use native.Mathlib.Omega.{arith}
use Rattle.session.specs.declared.Opened.{Opened}
use Rattle.store.specs.Edit.{put}
use Rattle.promises_answers.specs.Numbers.{Row, row, Gives, unfit, worn, bad_name, place_rows, put_at_rows}
use Rattle.promises_answers.proofs.Numbers.NumbersProved.{of-put-at}
use Rattle.promises_answers.proofs.PlacesProved.{put-places}
use Rattle.promises_answers.specs.Goals.{Goals}

-- rows that give 8 behind another row
behind : (k : ℕ) (P : Type 0) (rows others : List Row) → (8 ≡ k → ⊥) → (Gives rows 8 → Gives others 8) → Gives (row k P ∷ rows) 8 → Gives (row k P ∷ others) 8
behind k P rows others n f (inl p) = absurd (n p.1)
behind k P rows others n f (inr p) = inr (p.0, f p.1)

-- the row of the goal
at-goal : (P Q : Type 0) (rows : List Row) → ¬ Q → Gives (row 11 P ∷ rows) 8 → Gives (row 11 Q ∷ rows) 8
at-goal P Q rows q (inl p) = absurd (omega (arith, p.1))
at-goal P Q rows q (inr p) = inr (q, p.1)

room_for : (s : Opened) (work n d : List ℕ) (goal other : ℕ) → other < s.geo.s → Gives (put_at_rows (Some s) work n d goal) 8 → Gives (put_at_rows (Some s) work n d other) 8
room_for s work n d goal other l =
    behind 4 _ (unfit (Some s) work ∷ worn (Some s) ∷ named goal) (unfit (Some s) work ∷ worn (Some s) ∷ named other) (λ e. omega arith)
    (behind 2 _ (worn (Some s) ∷ named goal) (worn (Some s) ∷ named other) (λ e. omega arith)
    (behind 9 _ (named goal) (named other) (λ e. omega arith) (behind 5 _ (below goal) (below other) (λ e. omega arith) (at-goal _ _ (place_rows (Some s) work n d) (λ x. omega arith)))))
  where
    below : ℕ → List Row
    below i = row 11 (s.geo.s ≤ i) ∷ place_rows (Some s) work n d

    named : ℕ → List Row
    named i = bad_name n ∷ below i

pub goals : Goals
goals = record {
  without = λ s work n d. unfold put in refl;
  zero = λ s work n d j a h some t f. (((put-places s work n d 0 j a h).1 some).first t (omega arith) f).1;
  after = λ s work n d goal j a h some t l f. (((put-places s work n d goal j a h).1 some).first t l f).0;
  room = λ s work n d goal other l e. (of-put-at (Some s) work n d other 8).1 (room_for s work n d goal other l ((of-put-at (Some s) work n d goal 8).0 e));
}
