-- The table of numbers, proved: put's room, and all calls together. Assumes nothing.
use Rattle.std.specs.Prelude.{Some, None}
use mathlib.Core.Path.{◌≡◌, refl, ap, ◌∙◌}
use mathlib.Core.Bool.{true}
use mathlib.Core.List.{List}
use Prim.Native.Nat.{ℕ, zero, suc}
use native.Mathlib.Omega.{arith}
use lib.ListN.{length}
use Rattle.words.proofs.FirstLaws.{not_at}
use Rattle.sectors.specs.Sectors.{sec}
use Rattle.counts.proofs.GeoLaws.{Limits, limits}
use Rattle.entries.specs.Entries.{good_name, sectors_for}
use Rattle.apages.specs.Runs.{run_for}
use Rattle.apages.proofs.LowestLaws.{goal-nowhere}
use Rattle.card.specs.Plan.{refuse, do_it, need, refused, done, Changed}
use Rattle.card.proofs.MeansParts.{name-means}
use Rattle.session.specs.declared.Opened.{Opened}
use Rattle.session.specs.Session.{Session}
use Rattle.session.specs.Views.{present_page, cut_page}
use Rattle.session.specs.Fits.{fits}
use Rattle.session.proofs.FitLaws.{Fit, fit-inv}
use Rattle.session.proofs.FitMeansProved.{fits-mean}
use Rattle.store.specs.Edit.{place_in, run_in, put_plan, put_at, put}
use Rattle.store.proofs.RoomLaws.{present-wide, alike, room_in}
use Rattle.store.proofs.Plans.{put-plain}
use Rattle.promises_answers.specs.Numbers.{Exactly, NoRoom, place_rows, put_rows, put_at_rows, Numbers}
use Rattle.promises_answers.proofs.RowLaws.{Follows, exactly, number_of, ended-number, done-row, need-row, means-row, not-row, lt-row, closed-row, open_row}
use Rattle.promises_answers.proofs.Numbers.NumbersWhole.{of-make, of-mount, of-list, of-free, of-land, of-sync, of-unmount, of-read, of-read-list}
use Rattle.promises_answers.proofs.Numbers.NumbersFile.{of-get, of-read-get, of-remove, no-entry, an-entry}

-- ---- 8: put's room

module _ (s : Opened) (work : List ℕ) (F : Fit s work) where
  L : Limits s.geo
  L = limits s.geo F.shape

  abbrev p : List ℕ
  p = present_page s (sec work)

  abbrev q : List ℕ
  q = cut_page s (sec work)

  no_room : (k goal : ℕ) → run_in s work k goal ≡ None → NoRoom s work k
  unfolding run_in run_for
  no_room zero goal e = not_at e
  no_room (suc k) goal e =
      (omega arith, λ a lo hi page free. goal-nowhere (suc k) p q (omega arith) (alike s work F) goal e a (omega (arith, present-wide s work F, hi, L.covered), page, free))

  a-room : (k goal a : ℕ) → run_in s work k goal ≡ Some a → ¬ NoRoom s work k
  a-room k goal a e none = let (lo, hi, page, f) = room_in s work F k goal a none.0 e in none.1 a lo hi page f

-- put's entry and run
placed : (s : Opened) (work n d : List ℕ) (goal : ℕ) → fits s work ≡ true
    → Follows (place_rows (Some s) work n d) (need 7 (place_in s work n) (λ j. need 8 (run_in s work (sectors_for (length d)) goal) (λ a. do_it j (record { 0 = a }))))
placed s work n d goal f =
    need-row 7 (place_in s work n) _ _ _ (no-entry s work n) (an-entry s work n)
    (λ j h. need-row 8 (run_in s work (sectors_for (length d)) goal) _ _ _
    (no_room s work (fit-inv s work f) (sectors_for (length d)) goal) (a-room s work (fit-inv s work f) (sectors_for (length d)) goal) (λ a i. done-row))

pub of-put-at : (s : Session) (work n d : List ℕ) (goal : ℕ) → Exactly (put_at s work n d goal).answer.number (put_at_rows s work n d goal)
unfolding put_at refused done number_of put_plan
of-put-at None work n d goal = exactly {rows = put_at_rows None work n d goal} {p = refuse 4} refl closed-row
of-put-at (Some s) work n d goal =
    exactly (ended-number (λ (r : Changed). r.answer.number) _ _ (λ k. refl) (λ j a. refl) (put_plan s work n d goal))
    (open_row s (means-row 2 (fits s work) _ _ (fits-mean s work) (λ f. not-row 9 s.worn _ _ (λ w. means-row 5 (good_name n) _ _ (name-means n)
    (λ e. lt-row 11 goal s.geo.s _ _ (λ l. placed s work n d goal f))))))

pub of-put : (s : Session) (work n d : List ℕ) → Exactly (put s work n d).answer.number (put_rows s work n d)
unfolding put put_at refused done number_of
of-put None work n d = exactly {rows = put_rows None work n d} {p = refuse 4} refl closed-row
of-put (Some s) work n d =
    exactly (ended-number (λ (r : Changed). r.answer.number) _ _ (λ k. refl) (λ j a. refl) (put_plan s work n d 0) ∙ ap number_of (put-plain s work n d))
    (open_row s (means-row 2 (fits s work) _ _ (fits-mean s work) (λ f. not-row 9 s.worn _ _ (λ w. means-row 5 (good_name n) _ _ (name-means n)
    (λ e. placed s work n d 0 f)))))

-- ---- all calls

pub numbers : Numbers
numbers =
    record {
      of_make = of-make;
      of_mount = of-mount;
      of_put = of-put;
      of_put_at = of-put-at;
      of_remove = of-remove;
      of_get = of-get;
      of_list = of-list;
      of_free = of-free;
      of_land = of-land;
      of_sync = of-sync;
      of_unmount = of-unmount;
      of_read = of-read;
      of_read_list = of-read-list;
      of_read_get = of-read-get;
    }
