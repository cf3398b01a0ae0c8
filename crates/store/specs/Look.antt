-- get: "4, 2, 5, 6, 10"; list: "4, 2, 10"; free: "4, 2": the present view of a session. Assumes nothing.
use Rattle.std.specs.Prelude.{List, ℕ, length, Some, None}
use Rattle.sectors.specs.Sectors.{sec}
use Rattle.apages.specs.Free.{free_in, waiting_in}
use Rattle.card.specs.declared.Line.{Line}
use Rattle.card.specs.Plan.{Lined, Plan, refuse, guard, ended, go_ahead, refused, Got, Listed}
use Rattle.card.specs.Files.{get_plan, get_end, list_plan, list_end, no_line, line_end}
use Rattle.session.specs.declared.Opened.{Opened}
use Rattle.session.specs.Session.{Session}
use Rattle.session.specs.Views.{present_table, present_page, cut_page, present_files, session_files}
use Rattle.session.specs.Fits.{fits}
use Rattle.store.specs.Given.{Room}

unfoldable pub get : Session → List ℕ → List ℕ → List ℕ → Got
get None work n out = record { answer = refused 4; out = out }
get (Some s) work n out =
    let tp = present_table s (sec work) in
    get_end s.geo tp work out (guard 2 (fits s work) (get_plan s.geo tp work n out))

-- "list 4, 2, 10", for a lent table of `room` lines
unfoldable pub list_tests : Session → List ℕ → ℕ → Plan
list_tests None work room = refuse 4
list_tests (Some s) work room = guard 2 (fits s work) (list_plan (present_files s (sec work)) room)

unfoldable pub list : Session → List ℕ → List Line → Listed
list s work lines = list_end (session_files s work) lines (list_tests s work (length lines))

-- the line at a position (4, 2)
unfoldable pub line : Session → List ℕ → ℕ → Lined
line None work i = record { answer = refused 4; line = no_line }
line (Some s) work i = line_end (present_files s (sec work)) i (guard 2 (fits s work) go_ahead)

-- what free answers with a refusal: "a zero count", both figures
unfoldable pub no_figures : ℕ → Room
no_figures k = record { number = k; free = 0; waiting = 0 }

-- "Free is to mean clear in both views; a second figure gives the sectors the next sync releases": set in the cut view, clear in the present one
unfoldable pub figures : Opened → List ℕ → Room
figures s work =
    record {
      number = 0;
      free = free_in (present_page s (sec work)) (cut_page s (sec work));
      waiting = waiting_in (present_page s (sec work)) (cut_page s (sec work));
    }

unfoldable pub free : Session → List ℕ → Room
free None work = no_figures 4
free (Some s) work = ended (guard 2 (fits s work) go_ahead) no_figures (λ j a. figures s work)
