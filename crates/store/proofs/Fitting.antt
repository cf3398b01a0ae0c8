-- When a call meets a session that does not fit, and what an inner call asks in place of that test. Assumes nothing.
use Rattle.std.specs.Prelude.{Some, None}
use mathlib.Core.Path.{◌≡◌, refl, sym, ◌∙◌}
use mathlib.Core.Bool.{Bool, true, false}
use mathlib.Core.List.{List}
use Prim.Native.Nat.{ℕ, ◌*◌}
use borrow.Author.Tests.{eq-eqb, not-true, not-false}
use lib.ListN.{length}
use Rattle.words.proofs.BoolLaws.{falsum}
use Rattle.session.specs.declared.Opened.{Opened}
use Rattle.session.specs.Session.{Session}
use Rattle.session.specs.Fits.{fits}
use Rattle.store.specs.Inner.{FitOf, FitOn, unfit, unfit_on}

-- ---- what the test showed is what the inner call asks

pub fit_of : (o : Session) (work : List ℕ) {b : Bool} → b ≡ unfit o work → b ≡ false → FitOf o work
unfolding unfit
fit_of None work e h = tt
fit_of (Some s) work e h = not-false (fits s work) (sym e ∙ h)

pub fit_on : (o : Session) (card work : List ℕ) {b : Bool} → b ≡ unfit_on o card work → b ≡ false → FitOn o card work
unfolding unfit_on
fit_on None card work e h = tt
fit_on (Some s) card work e h = λ d. not-false (fits s work) (let q = eq-eqb (length card) (512 * s.geo.s) d in rw q at (sym e ∙ h))

-- an open session that fits, for a call that is lent the card too
pub on_of : (o : Session) (card work : List ℕ) → FitOf o work → FitOn o card work
on_of None card work f = tt
on_of (Some s) card work f = λ d. f

-- an inner call that has opened its session
pub open-fits : (work : List ℕ) {o : Session} {s : Opened} → o ≡ Some s → FitOf o work → fits s work ≡ true
open-fits work e f = rw e at f

pub open-fits-on : (card work : List ℕ) {o : Session} {s : Opened} → o ≡ Some s → FitOn o card work → length card ≡ 512 * s.geo.s → fits s work ≡ true
open-fits-on card work e f = rw e at f

-- ---- what the test showed where it answers 2

pub met-unfit : (o : Session) (work : List ℕ) {b : Bool} → b ≡ unfit o work → b ≡ true → (s : Opened) × (o ≡ Some s) × (fits s work ≡ false)
unfolding unfit
met-unfit None work e h = falsum (sym e ∙ h)
met-unfit (Some s) work e h = (s, refl, not-true (fits s work) (sym e ∙ h))
