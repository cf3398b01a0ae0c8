-- No two results give one answer: each refusal has a number of its own, and none has 0. Assumes nothing.
use Rattle.std.specs.Prelude.{Option, Some, None, Result, Ok, Err}
use mathlib.Core.Path.{◌≡◌, refl, sym, ap, ◌∙◌}
use mathlib.Core.Logic.{◌≢◌}
use mathlib.Core.Bool.{cond}
use lib.Dec.{eqb}
use Prim.Native.Nat.{ℕ}
use native.Mathlib.Omega.{arith}
use Rattle.card.specs.declared.Answer.{Answer}
use Rattle.card.specs.declared.Contents.{Contents}
use Rattle.card.specs.declared.Line.{Line}
use Rattle.card.specs.declared.Refusal.{Refusal}
use Rattle.card.specs.declared.Refusal.TheVariants.{Shape, Unsound, CountsUsed, Closed, BadName, NoFile, NoEntry, NoRoom, Worn, ShortOutput, NoSector}
use Rattle.card.specs.Answers.{number_of, number_in, counted, uncounted, reported_of, lined_of}
use Rattle.card.specs.Plan.{refused, done, Lined, Report}

-- the refusal of a number
abbrev refusal_of : ℕ → Refusal
refusal_of n =
    cond (eqb n 1) Shape (cond (eqb n 2) Unsound (cond (eqb n 3) CountsUsed (cond (eqb n 4) Closed (cond (eqb n 5) BadName
    (cond (eqb n 6) NoFile (cond (eqb n 7) NoEntry (cond (eqb n 8) NoRoom (cond (eqb n 9) Worn (cond (eqb n 10) ShortOutput NoSector)))))))))

refusal-back : (r : Refusal) → refusal_of (number_of r) ≡ r
refusal-back Shape = refl
refusal-back Unsound = refl
refusal-back CountsUsed = refl
refusal-back Closed = refl
refusal-back BadName = refl
refusal-back NoFile = refl
refusal-back NoEntry = refl
refusal-back NoRoom = refl
refusal-back Worn = refl
refusal-back ShortOutput = refl
refusal-back NoSector = refl

number-one : (r s : Refusal) → number_of r ≡ number_of s → r ≡ s
number-one r s h = sym (refusal-back r) ∙ ap refusal_of h ∙ refusal-back s

pub number-some : (r : Refusal) → number_of r ≢ 0
number-some Shape h = omega arith
number-some Unsound h = omega arith
number-some CountsUsed h = omega arith
number-some Closed h = omega arith
number-some BadName h = omega arith
number-some NoFile h = omega arith
number-some NoEntry h = omega arith
number-some NoRoom h = omega arith
number-some Worn h = omega arith
number-some ShortOutput h = omega arith
number-some NoSector h = omega arith

-- what is done is told from what is refused, and two refusals by their numbers; what two done calls give is for the caller to tell
pub result-one : {A : Type 0} (r s : Result A Refusal) → number_in r ≡ number_in s → ((x y : A) → r ≡ Ok x → s ≡ Ok y → x ≡ y) → r ≡ s
result-one (Ok x) (Ok y) h f = ap Ok (f x y refl refl)
result-one (Ok x) (Err b) h f = absurd (number-some b (sym h))
result-one (Err a) (Ok y) h f = absurd (number-some a h)
result-one (Err a) (Err b) h f = ap Err (number-one a b h)

-- ---- by what a call counts

counted_number : (r : Result ℕ Refusal) → number_in r ≡ (counted r).number
unfolding refused done
counted_number (Ok n) = refl
counted_number (Err a) = refl

pub counted-one : (r s : Result ℕ Refusal) → counted r ≡ counted s → r ≡ s
unfolding done
counted-one r s h =
    result-one r s (counted_number r ∙ ap (λ (a : Answer). a.number) h ∙ sym (counted_number s))
    (λ x y e f. ap (λ (a : Answer). a.count) (sym (ap counted e) ∙ h ∙ ap counted f))

-- the number alone
pub uncounted_number : (r : Result Unit Refusal) → number_in r ≡ (uncounted r).number
unfolding refused done
uncounted_number (Ok u) = refl
uncounted_number (Err a) = refl

pub number-in-one : (r s : Result Unit Refusal) → number_in r ≡ number_in s → r ≡ s
number-in-one r s h = result-one r s h (λ x y e f. refl)

pub uncounted-one : (r s : Result Unit Refusal) → uncounted r ≡ uncounted s → r ≡ s
uncounted-one r s h = number-in-one r s (uncounted_number r ∙ ap (λ (a : Answer). a.number) h ∙ sym (uncounted_number s))

reported_number : (r : Result Contents Refusal) → number_in r ≡ (reported_of r).number
reported_number (Ok x) = refl
reported_number (Err a) = refl

pub reported-one : (r s : Result Contents Refusal) → reported_of r ≡ reported_of s → r ≡ s
reported-one r s h =
    result-one r s (reported_number r ∙ ap (λ (a : Report). a.number) h ∙ sym (reported_number s))
    (λ x y e f. ap (λ (a : Report). record { c = a.c; n = a.n; files = a.files; free = a.free }) (sym (ap reported_of e) ∙ h ∙ ap reported_of f))

lined_number : (r : Result (Option Line) Refusal) → number_in r ≡ (lined_of r).answer.number
unfolding refused done
lined_number (Ok (Some l)) = refl
lined_number (Ok None) = refl
lined_number (Err a) = refl

-- a line is told from none by the count
line-one : (x y : Option Line) → lined_of (Ok x) ≡ lined_of (Ok y) → x ≡ y
unfolding done
line-one (Some l) (Some m) h = ap (λ (a : Lined). Some a.line) h
line-one (Some l) None h = let k : ◌≡◌ {A = ℕ} 1 0 = ap (λ (a : Lined). a.answer.count) h in absurd (omega arith)
line-one None (Some m) h = let k : ◌≡◌ {A = ℕ} 0 1 = ap (λ (a : Lined). a.answer.count) h in absurd (omega arith)
line-one None None h = refl

pub lined-one : (r s : Result (Option Line) Refusal) → lined_of r ≡ lined_of s → r ≡ s
lined-one r s h =
    result-one r s (lined_number r ∙ ap (λ (a : Lined). a.answer.number) h ∙ sym (lined_number s))
    (λ x y e f. line-one x y (sym (ap lined_of e) ∙ h ∙ ap lined_of f))
