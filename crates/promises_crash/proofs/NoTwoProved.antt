-- What NoTwo states, proved. Assumes nothing.
use Rattle.std.specs.Prelude.{Some, None}
use mathlib.Core.Path.{◌≡◌, refl}
use mathlib.Core.Bool.{Bool, true, false, not, ◌&&◌}
use mathlib.Core.List.{List, [], ◌∷◌}
use mathlib.Core.Logic.{◌⊎◌, inl, inr, ◌≢◌}
use Prim.Native.Nat.{ℕ, ◌≤◌, ◌<◌}
use native.Mathlib.Omega.{arith}
use borrow.Author.Tests.{eq-eqb, not-true}
use lib.Dec.{eqb}
use lib.ListN.{length}
use Rattle.words.proofs.BoolLaws.{both}
use Rattle.sectors.specs.Sectors.{sec}
use Rattle.counts.specs.Geometry.{geo_ok, geo_of}
use Rattle.counts.proofs.GeoLaws.{limits}
use Rattle.card.specs.Means.{Sound}
use Rattle.session.specs.Session.{Session}
use Rattle.session.proofs.FitMeansProved.{fits-mean}
use Rattle.store.specs.Inner.{FitOf}
use Rattle.promises_answers.specs.Numbers.{Row, row, Gives, Exactly, Misshapen, closed, of_card, unfit, make_rows, mount_rows, put_at_rows, remove_rows, get_rows, list_rows, free_rows, land_rows, sync_rows, unmount_rows, read_rows, read_list_rows, read_get_rows}
use Rattle.promises_answers.proofs.RowLaws.{small, at_most, clash}
use Rattle.promises_answers.proofs.Numbers.NumbersWhole.{outside}
use Rattle.promises_answers.proofs.Numbers.NumbersProved.{numbers}
use Rattle.promises_crash.specs.History.{World, Reach}
use Rattle.promises_crash.proofs.Fit.FitHistory.{always-fits}
use Rattle.promises_crash.proofs.Demand.{card-possible}
use Rattle.promises_crash.specs.NoTwo.{NoTwo, InTable}

-- ---- a number that no row after some has

abbrev pub other : ℕ → List Row → Bool
other k [] = not (eqb k 0)
other k (r ∷ rows) = not (eqb k r.number) && other k rows

pub lacks : (k : ℕ) (rows : List Row) → other k rows ≡ true → ¬ Gives rows k
lacks k [] h g = clash (eq-eqb k 0 g) (not-true _ h)
lacks k (r ∷ rows) h (inl g) = clash (eq-eqb k r.number g.1) (not-true _ (both (not (eqb k r.number)) _ h).0)
lacks k (r ∷ rows) h (inr g) = lacks k rows (both (not (eqb k r.number)) _ h).1 g.1

-- the row of 2 is not due, and no other row has the number
fitting : (s : Session) (work : List ℕ) (rows : List Row) → FitOf s work → other 2 rows ≡ true → ¬ Gives (closed s ∷ unfit s work ∷ rows) 2
fitting s work rows f l (inl g) = omega (arith, g.1)
fitting None work rows f l (inr g) = g.0 refl
fitting (Some s) work rows f l (inr (n, inl g)) = g.0 ((fits-mean s work).0 f)
fitting (Some s) work rows f l (inr (n, inr g)) = lacks 2 rows l g.1

fitting-card : (s : Session) (card work : List ℕ) (rows : List Row) → FitOf s work → other 2 rows ≡ true → ¬ Gives (closed s ∷ of_card s card ∷ unfit s work ∷ rows) 2
fitting-card s card work rows f l (inl g) = omega (arith, g.1)
fitting-card s card work rows f l (inr (n, inl g)) = omega (arith, g.1)
fitting-card s card work rows f l (inr (n, inr (m, g))) = fitting s work rows f l (inr (n, g))

sound-card : (img : List ℕ) (P : Type 0) (rows : List Row) → Sound img → other 2 rows ≡ true → ¬ Gives (row 1 P ∷ row 2 (¬ Sound img) ∷ rows) 2
sound-card img P rows f l (inl g) = omega (arith, g.1)
sound-card img P rows f l (inr (n, inl g)) = g.0 f
sound-card img P rows f l (inr (n, inr g)) = lacks 2 rows l g.1

-- the rows after the first
abbrev rest : List Row → List Row
rest [] = []
rest (r ∷ rows) = rows

pub no-two : {w : World} → Reach w → NoTwo w
no-two {w} r =
    let f = always-fits r in
    let R = (card-possible w r).1 in
    let c : Sound w.card = R.is_sound in
    record {
      of_put = λ n d goal e. fitting w.session w.work (rest (rest (put_at_rows w.session w.work n d goal))) f refl ((numbers.of_put_at w.session w.work n d goal 2).0 e);
      of_remove = λ n e. fitting w.session w.work (rest (rest (remove_rows w.session w.work n))) f refl ((numbers.of_remove w.session w.work n 2).0 e);
      of_get = λ n out e. fitting w.session w.work (rest (rest (get_rows w.session w.work n out))) f refl ((numbers.of_get w.session w.work n out 2).0 e);
      of_list = λ lines e. fitting w.session w.work (rest (rest (list_rows w.session w.work lines))) f refl ((numbers.of_list w.session w.work lines 2).0 e);
      of_free = λ e. fitting w.session w.work [] f refl ((numbers.of_free w.session w.work 2).0 e);
      of_land = λ card i e. fitting-card w.session card w.work (rest (rest (rest (land_rows w.session card w.work i)))) f refl ((numbers.of_land w.session card w.work i 2).0 e);
      of_sync = λ card e. fitting-card w.session card w.work (rest (rest (rest (sync_rows w.session card w.work)))) f refl ((numbers.of_sync w.session card w.work 2).0 e);
      of_unmount = λ card e. fitting-card w.session card w.work [] f refl ((numbers.of_unmount w.session card w.work 2).0 e);
      of_mount = λ work e. sound-card w.card (Misshapen w.card ⊎ (length work ≢ length w.card)) (rest (rest (mount_rows w.card work))) c refl ((numbers.of_mount w.card work 2).0 e);
      of_read = λ e. sound-card w.card (Misshapen w.card) [] c refl ((numbers.of_read w.card 2).0 e);
      of_read_list = λ lines e. sound-card w.card (Misshapen w.card) (rest (rest (read_list_rows w.card lines))) c refl ((numbers.of_read_list w.card lines 2).0 e);
      of_read_get = λ n out e. sound-card w.card (Misshapen w.card) (rest (rest (read_get_rows w.card n out))) c refl ((numbers.of_read_get w.card n out 2).0 e);
    }

-- ---- 0 to 11

in_rows : (rows : List Row) {m : ℕ} → small rows ≡ true → Exactly m rows → m ≤ 11
in_rows rows {m} s e = at_most rows m s ((e m).0 refl)

pub in-table : InTable
in-table =
    record {
      of_make = λ g card. in_rows (make_rows g card) refl (numbers.of_make g card);
      of_mount = λ card work. in_rows (mount_rows card work) refl (numbers.of_mount card work);
      of_put = λ s work n d goal. in_rows (put_at_rows s work n d goal) refl (numbers.of_put_at s work n d goal);
      of_remove = λ s work n. in_rows (remove_rows s work n) refl (numbers.of_remove s work n);
      of_get = λ s work n out. in_rows (get_rows s work n out) refl (numbers.of_get s work n out);
      of_list = λ s work lines. in_rows (list_rows s work lines) refl (numbers.of_list s work lines);
      of_free = λ s work. in_rows (free_rows s work) refl (numbers.of_free s work);
      of_land = λ s card work i. in_rows (land_rows s card work i) refl (numbers.of_land s card work i);
      of_sync = λ s card work. in_rows (sync_rows s card work) refl (numbers.of_sync s card work);
      of_unmount = λ s card work. in_rows (unmount_rows s card work) refl (numbers.of_unmount s card work);
      of_read = λ img. in_rows (read_rows img) refl (numbers.of_read img);
      of_read_list = λ img lines. in_rows (read_list_rows img lines) refl (numbers.of_read_list img lines);
      of_read_get = λ img n out. in_rows (read_get_rows img n out) refl (numbers.of_read_get img n out);
    }

-- "or too short to store one": 16 bytes hold C, S, T and D
pub too_short : (img : List ℕ) → length img < 16 → Misshapen img
too_short img h = go (geo_ok (geo_of (sec img))) refl
  where
    go : (b : Bool) → geo_ok (geo_of (sec img)) ≡ b → Misshapen img
    go true e = inr (λ q. let L = limits (geo_of (sec img)) e in omega (arith, L.s_low, L.past, L.dir))
    go false e = inl (outside (geo_of (sec img)) e)
