-- Free, line and get, answer by answer. Assumes nothing.
use Rattle.std.specs.Prelude.{Option, Some, Ok, slice_get}
use mathlib.Core.Path.{◌≡◌, sym, ap, ◌∙◌, subst}
use mathlib.Core.Bool.{true}
use mathlib.Core.List.{List}
use Prim.Native.Nat.{ℕ}
use Rattle.sectors.specs.Sectors.{sec}
use Rattle.counts.specs.declared.View.{View}
use Rattle.counts.specs.Stamps.{table_in, as_is}
use Rattle.directory.specs.Directory.{entries_of}
use Rattle.apages.specs.Free.{free_in, waiting_in}
use Rattle.apages.specs.Index.{page_in}
use Rattle.card.specs.declared.Answer.{Answer}
use Rattle.card.specs.declared.Line.{Line}
use Rattle.card.specs.Answers.{lined_of}
use Rattle.card.specs.Plan.{Plan, guard, ended}
use Rattle.card.specs.Files.{files_of, get_plan, get_end}
use Rattle.card.proofs.LineLaws.{line-counted}
use Rattle.session.specs.declared.Opened.{Opened}
use Rattle.session.specs.Session.{Session}
use Rattle.session.specs.Views.{present_view, present_table, present_page, cut_page, present_files}
use Rattle.session.specs.Fits.{fits}
use Rattle.card.specs.Inner.{IsGot, get_in, RunsOk}
use Rattle.card.proofs.CoverLaws.{entries-runs}
use Rattle.card.proofs.SoundLaws.{view-inv}
use Rattle.card.proofs.PlanLaws.{guard-yes}
use Rattle.session.proofs.FitLaws.{fit-inv}
use Rattle.store.specs.declared.Figures.{Figures}
use Rattle.store.specs.Given.{room_of}
use Rattle.store.specs.Look.{line, figures, free, get}
use Rattle.store.proofs.ViewLaws.{fit-laid, present-is, cut-is}

-- ---- free and line

module _ (s : Opened) (work : List ℕ) {o : Session} (eo : o ≡ Some s) {v : View} (z : fits s work ≡ true) (ev : v ≡ present_view s) where
  pub free-done : {w : View} {f : Figures} → w ≡ as_is s.geo
      → f ≡ record { free = free_in (page_in s.geo (table_in s.geo v (sec work)) (sec work)) (page_in s.geo (table_in s.geo w (sec work)) (sec work)); waiting = waiting_in (page_in s.geo (table_in s.geo v (sec work)) (sec work)) (page_in s.geo (table_in s.geo w (sec work)) (sec work)) }
      → room_of (Ok f) ≡ free o work
  unfolding free guard ended figures present_page cut_page
  free-done ew ef =
      let p = present-is s work ev ew (fit-laid s work z) in
      let c = cut-is s work ev ew (fit-laid s work z) in
      rw (eo, z, ef, p, c)

  pub line-done : (i : ℕ) {l : Option Line} → l ≡ slice_get (files_of (table_in s.geo v (sec work)) (entries_of s.geo (sec work))) i → lined_of (Ok l) ≡ line o work i
  unfolding line guard present_files present_table
  line-done i el = rw (eo, z, el, ev) (line-counted _ i)

-- ---- get

-- the runs of the present view
pub fit-runs : (s : Opened) (work : List ℕ) {v : View} → fits s work ≡ true → v ≡ present_view s
    → RunsOk s.geo (table_in s.geo v (sec work)) (entries_of s.geo (sec work))
unfolding present_table
fit-runs s work h ev =
    subst (λ (u : View). RunsOk s.geo (table_in s.geo u (sec work)) (entries_of s.geo (sec work))) (sym ev)
    (entries-runs s.geo s.c.0 (present_table s (sec work)) (entries_of s.geo (sec work))
    (view-inv s.geo s.c.0 (present_table s (sec work)) (sec work) (fit-inv s work h).pres_view).entries)

module _ (s : Opened) (work n out : List ℕ) {o : Session} (eo : o ≡ Some s) where
  get_by : {p : Plan} → guard 2 (fits s work) (get_plan s.geo (present_table s (sec work)) work n out) ≡ p
      → get o work n out ≡ get_end s.geo (present_table s (sec work)) work out p
  unfolding get
  get_by ep = ap (λ (q : Session). get q work n out) eo ∙ ap (λ (p : Plan). get_end s.geo (present_table s (sec work)) work out p) ep

pub get-done : (s : Opened) (work n out : List ℕ) {o : Session} → o ≡ Some s → {v : View} {r : Answer} {x : List ℕ} → fits s work ≡ true → v ≡ present_view s
    → IsGot r x (get_in s.geo (table_in s.geo v (sec work)) work n out) → IsGot r x (get o work n out)
unfolding get get_in present_table
get-done s work n out eo z ev h =
    let e = guard-yes 2 (get_plan s.geo (present_table s (sec work)) work n out) z in (rw (eo, e) (rw ev at h.0), rw (eo, e) (rw ev at h.1))
