-- What Answers states, proved. Assumes nothing.
use Rattle.std.specs.Prelude.{Some, None}
use mathlib.Core.Path.{◌≡◌, refl, sym, ◌∙◌}
use mathlib.Core.Bool.{true, false}
use mathlib.Core.List.{List, []}
use mathlib.Core.Logic.{◌≢◌}
use Prim.Native.Nat.{ℕ, ◌+◌, ◌≤◌, ◌<◌}
use native.Mathlib.Omega.{arith}
use lib.ListN.{length}
use Rattle.words.specs.Lists.{pairwise, first_at}
use Rattle.sectors.specs.declared.Sector.{Sector}
use Rattle.sectors.specs.Sectors.{sec}
use Rattle.counts.specs.Geometry.{g_n}
use Rattle.entries.specs.declared.Version.TheVariants.{Absent, Present}
use Rattle.entries.specs.Entries.{shown, name_of, sectors_for}
use Rattle.directory.specs.Directory.{entries_of, apart, named}
use Rattle.directory.proofs.NameLaws.{is-present}
use Rattle.apages.specs.Runs.{run_for}
use Rattle.apages.specs.Index.{page_in}
use Rattle.apages.proofs.LowestLaws.{run-clear}
use Rattle.card.specs.Plan.{Plan, do_it, ended, refused, done, Changed}
use Rattle.card.proofs.PlanLaws.{Num, no!, go! }
use Rattle.card.specs.Files.{files_of, cover}
use Rattle.card.proofs.SpaceLaws.{page-wide, clear-bit}
use Rattle.session.specs.declared.Opened.{Opened}
use Rattle.session.specs.Views.{cut_table, present_page, cut_page}
use Rattle.session.proofs.FitLaws.{Fit, fit-inv, present-live}
use Rattle.store.specs.Edit.{put_place, place_in, run_in, put_plan, put_run, put_work, put_at, remove_plan, remove_work, remove}
use Rattle.store.proofs.PlaceLaws.{Named, name-found, place-named}
use Rattle.store.proofs.Plans.{put_inv, put-num, remove-inv, remove-num}
use Rattle.promises_answers.specs.PlainList.{without, With, shown_in}
use Rattle.promises_answers.proofs.Alone.{place-alone, found-alone}
use Rattle.promises_answers.proofs.Ready.{tc_of, tp_of, entry_at, cut, pres}
use Rattle.promises_answers.proofs.Calls.{put-ready, remove-ready}
use Rattle.promises_answers.proofs.Answered.{gone-now, added-now}
use Rattle.promises_answers.specs.Answers.{PutAnswers, RemoveAnswers}

-- ---- a plan that goes through: what `Answered` asks for

pub done-plan : {p : Plan} (image : List ℕ) (h : ℕ → Sector → Changed) → Num p → (ended p (λ k. record { answer = refused k; image = image }) h).answer.number ≡ 0
    → (j : ℕ) × (a : Sector) × (p ≡ do_it j a)
unfolding ended refused
done-plan image h (no! k) e = absurd (omega arith)
done-plan image h (go! j a) e = (j, a, refl)

module _ (s : Opened) (work : List ℕ) (F : Fit s work) (live : s.worn ≡ false) where
  pub apart-live : pairwise (apart (tp_of s work) (tc_of s work)) (entries_of s.geo (sec work)) ≡ true
  apart-live = rw (present-live s (sec work) live) at F.alone

  pub named_live : (n : List ℕ) (j : ℕ) → Named (tp_of s work) (tc_of s work) n (entries_of s.geo (sec work)) j
      → shown (tp_of s work) (entry_at s j work) ≢ Absent → name_of (entry_at s j work) ≡ n
  named_live n j N h = sym (N.name (is-present _ h))

  pub place-live : (n : List ℕ) (j : ℕ) → place_in s work n ≡ Some j → put_place (tp_of s work) (tc_of s work) n (entries_of s.geo (sec work)) ≡ Some j
  unfolding place_in cut_table
  place-live n j e = rw (present-live s (sec work) live) at e

  pub run-live : (k goal a : ℕ) → run_in s work k goal ≡ Some a → run_for k goal (page_in s.geo (tp_of s work) (sec work)) (page_in s.geo (tc_of s work) (sec work)) ≡ Some a
  unfolding run_in present_page cut_page cut_table
  run-live k goal a e = rw (present-live s (sec work) live) at e

  -- the sectors of put's run: clear in the present page, and in no file of the present view
  pub run-free : (k goal a : ℕ) → run_in s work k goal ≡ Some a → (i : ℕ) → a ≤ i → i < a + k → cover (files_of (tp_of s work) (entries_of s.geo (sec work))) i ≡ 0
  run-free k goal a e i lo hi =
      let wc = page-wide s.geo (g_n s.geo) (tc_of s work) work F.shape F.sized (cut s work F live) in
      let wp = page-wide s.geo s.c.0 (tp_of s work) work F.shape F.sized (pres s work F live) in
      let w = run-clear k goal a _ _ (wp ∙ sym wc) (run-live k goal a e) i lo hi in
      (clear-bit s.geo s.c.0 (tp_of s work) (sec work) F.shape (pres s work F live) wp i (omega (arith, w.2, wp)) w.0).1

put-open : (s : Opened) (work n d : List ℕ) (goal j : ℕ) (a : Sector) → put_plan s work n d goal ≡ do_it j a → With n d (shown_in (Some s) work) (shown_in (Some s) (put_work s j a work n d))
unfolding put_work
put-open s work n d goal j a h =
    let p = put_inv s work n d goal j a h in
    let F = fit-inv s work p.fit in
    let e = place-live s work F p.live n j p.entry in
    added-now s j a.0 (sectors_for (length d)) (Present (put_run a d)) work n d (sec work) (put-ready s work (sec work) refl n d goal j a h)
    (place-alone (tp_of s work) (tc_of s work) n (entries_of s.geo (sec work)) j (apart-live s work F p.live) e)
    (named_live s work F p.live n j (place-named (tp_of s work) (tc_of s work) n (entries_of s.geo (sec work)) j e))
    (run-free s work F p.live (sectors_for (length d)) goal a.0 p.run) refl refl

remove-open : (s : Opened) (work n : List ℕ) (j : ℕ) (a : Sector) → remove_plan s work n ≡ do_it j a → shown_in (Some s) (remove_work s j work n) ≡ without n (shown_in (Some s) work)
unfolding remove_work
remove-open s work n j a h =
    let p = remove-inv s work n j a h in
    let F = fit-inv s work p.fit in
    let e : first_at (named (tp_of s work) (tp_of s work) n) 0 (entries_of s.geo (sec work)) ≡ Some j = rw (present-live s (sec work) p.live) at p.entry in
    gone-now s j 0 0 Absent work n [] (sec work) (remove-ready s work (sec work) refl n j a h)
    (found-alone (tp_of s work) (tc_of s work) n (entries_of s.geo (sec work)) j (apart-live s work F p.live) e)
    (named_live s work F p.live n j (name-found (tp_of s work) (tp_of s work) n (entries_of s.geo (sec work)) j (tc_of s work) e))
    (λ i lo hi. absurd (omega arith)) refl

pub put-answers : PutAnswers
unfolding put_at refused
put-answers None work n d goal h = absurd (omega arith)
put-answers (Some s) work n d goal h =
    let (j, a, e) = done-plan work (λ i b. record { answer = done 0; image = put_work s i b work n d }) (put-num s work n d goal) h in
    rw e (unfold ended in put-open s work n d goal j a e)

pub remove-answers : RemoveAnswers
unfolding remove refused
remove-answers None work n h = absurd (omega arith)
remove-answers (Some s) work n h =
    let (j, a, e) = done-plan work (λ i b. record { answer = done 0; image = remove_work s i work n }) (remove-num s work n) h in
    rw e (unfold ended in remove-open s work n j a e)
