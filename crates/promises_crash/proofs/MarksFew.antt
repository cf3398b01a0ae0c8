-- No more sectors are marked than the puts and removes since the latest sync or mount wrote, and with no change none. Assumes nothing.
use Rattle.std.specs.Prelude.{Some, None}
use mathlib.Core.Path.{◌≡◌, refl}
use mathlib.Core.Bool.{Bool, true, false, ◌&&◌, ◌||◌}
use mathlib.Core.List.{List}
use mathlib.Core.Logic.{⊎_elim}
use Prim.Native.Nat.{ℕ, zero, suc, ◌+◌, ◌≤◌}
use native.Mathlib.Omega.{arith}
use borrow.Author.Tests.{eqb-true}
use lib.Dec.{leb, ltb, eqb}
use lib.ListN.{length}
use Rattle.words_sums.specs.Sums.{bit, total, in_run}
use Rattle.words_sums.proofs.SumLaws.{total-add, total-run, total-zero, total-le, place}
use Rattle.sectors.specs.declared.Sector.{Sector}
use Rattle.entries.specs.Entries.{sectors_for}
use Rattle.directory.specs.Directory.{spot_of}
use Rattle.card.specs.Plan.{Plan, ended, refused, done, Changed}
use Rattle.card.proofs.PlanLaws.{Num}
use Rattle.session.specs.declared.Opened.{Opened}
use Rattle.session.specs.Session.{Session}
use Rattle.store.specs.Edit.{put_work, put_at, remove_work, remove}
use Rattle.store.proofs.Plans.{put-num, remove-num}
use Rattle.promises_crash.specs.History.{World, by_number, Call, make_c, mount_c, sync_c, unmount_c, put_c, remove_c, land_c, get_c, list_c, free_c, Reach, fresh, call, cut, cut_in}
use Rattle.promises_crash.specs.Fewer.{changes_by, changes, Marks, no_marks, hit_by, marked, put_marks, remove_marks, marks_by, marks, counted}
use Rattle.promises_crash.proofs.TouchedAll.{by-num}

-- the number of hits of a run
pub run-few : (a n S : ℕ) → total (in_run a n) S ≤ n
run-few a n S = omega (arith, total-run a n S)

pub run-here : (a : ℕ) → in_run a 1 a ≡ 1
run-here a = ⊎_elim (λ w. absurd (omega (arith, w.0))) (⊎_elim (λ w. w.2) (λ w. absurd (omega (arith, w.1)))) (place a 1 a)

-- how many sectors are marked, and that with no change nothing is
pub record Few (M : Marks) (c : ℕ) : Type 0 where
  pub few : (S : ℕ) → counted M.sectors S ≤ c
  pub none : c ≡ 0 → M ≡ no_marks

few-none : Few no_marks 0
unfolding counted
few-none = record { few = λ S. omega (arith, total-zero S); none = λ z. refl }

-- a sector that one change hits
hit-one : (s : Opened) (j a k i : ℕ) → bit (hit_by s j (record { 0 = a }) k i) ≤ in_run (spot_of s.geo j).sector 1 i + in_run a k i
unfolding hit_by
hit-one s j a k i = go (eqb i (spot_of s.geo j).sector) refl
  where
    go : (b : Bool) → eqb i (spot_of s.geo j).sector ≡ b → bit (b || (leb a i && ltb i (a + k))) ≤ in_run (spot_of s.geo j).sector 1 i + in_run a k i
    go true e = let q : i ≡ (spot_of s.geo j).sector = eqb-true _ _ e in rw q (omega (arith, run-here (spot_of s.geo j).sector))
    go false e = unfold in_run in omega arith

or-bits : (a b : Bool) → bit (a || b) ≤ bit a + bit b
or-bits true b = omega arith
or-bits false b = omega arith

few-more : (s : Opened) (work : List ℕ) (j a k c : ℕ) (M : Marks) → Few M c → (pages : ℕ → Bool) → Few (record { sectors = λ i. hit_by s j (record { 0 = a }) k i || M.sectors i; pages = pages }) (k + 1 + c)
unfolding counted
few-more s work j a k c M F pages = record { few = few; none = λ z. absurd (omega arith) }
  where
    few : (S : ℕ) → total (λ i. bit (hit_by s j (record { 0 = a }) k i || M.sectors i)) S ≤ k + 1 + c
    few S =
        let x = total-add (in_run (spot_of s.geo j).sector 1) (in_run a k) (λ i. in_run (spot_of s.geo j).sector 1 i + in_run a k i) S (λ i l. refl) in
        let y = total-add (λ i. in_run (spot_of s.geo j).sector 1 i + in_run a k i) (λ i. bit (M.sectors i)) (λ i. in_run (spot_of s.geo j).sector 1 i + in_run a k i + bit (M.sectors i)) S (λ i l. refl) in
        let z = total-le (λ i. bit (hit_by s j (record { 0 = a }) k i || M.sectors i)) (λ i. in_run (spot_of s.geo j).sector 1 i + in_run a k i + bit (M.sectors i)) S
        (λ i l. omega (arith, or-bits (hit_by s j (record { 0 = a }) k i) (M.sectors i), hit-one s j a k i)) in
        let f : total (λ i. bit (M.sectors i)) S ≤ c = (unfold counted in F.few S) in
        omega (arith, run-few (spot_of s.geo j).sector 1 S, run-few a k S)

-- a change by its plan
few-plan : (s : Opened) (work : List ℕ) (k c : ℕ) (M : Marks) {p : Plan} → Num p → (on : ℕ → Sector → Changed) → ((j : ℕ) (a : Sector) → (on j a).answer.number ≡ 0) → Few M c
    → Few (marked s work k p M) (by_number (ended p (λ n. record { answer = refused n; image = work }) on).answer.number (k + 1 + c) c)
unfolding marked refused ended by_number
few-plan s work k c M q on z F =
    by-num (λ (p : Plan). Few (marked s work k p M) (by_number (ended p (λ n. record { answer = refused n; image = work }) on).answer.number (k + 1 + c) c))
    q (λ n. F) (λ j a e. rw (z j a) (few-more s work j a.0 k c M F _))

few-put : (o : Session) (work n d : List ℕ) (goal c : ℕ) (M : Marks) → Few M c → Few (put_marks o work n d goal M) (by_number (put_at o work n d goal).answer.number (sectors_for (length d) + 1 + c) c)
unfolding put_marks put_at refused done by_number
few-put None work n d goal c M F = F
few-put (Some s) work n d goal c M F = few-plan s work (sectors_for (length d)) c M (put-num s work n d goal) (λ j a. record { answer = done 0; image = put_work s j a work n d }) (λ j a. refl) F

few-remove : (o : Session) (work n : List ℕ) (c : ℕ) (M : Marks) → Few M c → Few (remove_marks o work n M) (by_number (remove o work n).answer.number (1 + c) c)
unfolding remove_marks remove refused done by_number
few-remove None work n c M F = F
few-remove (Some s) work n c M F = few-plan s work 0 c M (remove-num s work n) (λ j a. record { answer = done 0; image = remove_work s j work n }) (λ j a. refl) F

-- a sync or unmount
few-anew : (number c : ℕ) (M : Marks) → Few M c → Few (by_number number no_marks M) (by_number number 0 c)
unfolding by_number
few-anew zero c M F = few-none
few-anew (suc n) c M F = F

few-step : (w : World) (M : Marks) (c : ℕ) → Few M c → (x : Call) → Few (marks_by x w M) (changes_by x w c)
unfolding marks_by changes_by
few-step w M c F (make_c g) = F
few-step w M c F mount_c = few-none
few-step w M c F sync_c = few-anew _ c M F
few-step w M c F unmount_c = few-anew _ c M F
few-step w M c F (put_c n d goal) = few-put w.session w.work n d goal c M F
few-step w M c F (remove_c n) = few-remove w.session w.work n c M F
few-step w M c F (land_c i) = F
few-step w M c F (get_c n out) = F
few-step w M c F (list_c lines) = F
few-step w M c F free_c = F

pub few-marks : {w : World} (r : Reach w) → Few (marks r) (changes r)
unfolding marks changes
few-marks (fresh g work ok) = few-none
few-marks (call {w = w} r c) = few-step w (marks r) (changes r) (few-marks r) c
few-marks (cut r card work x) = few-none
few-marks (cut_in r c n card work x) = few-none
