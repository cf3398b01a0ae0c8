-- What the contracts of inner functions cite besides the words of the papers: what such a function asks of its caller, and what it answers. Assumes nothing.
use Rattle.std.specs.Prelude.{◌≡◌, List, [], true, false, Bool, not, ◌&&◌, ℕ, ◌+◌, ◌*◌, ◌%◌, ◌≤◌, ◌<◌, length, get_or, eqb, Some, None}
use Rattle.sectors.specs.Sectors.{sec, lean_writes}
use Rattle.counts.specs.Geometry.{g_n, g_p, g_f, geo_of, count_of, table_of}
use Rattle.counts.specs.Inner.{LaidOut}
use Rattle.counts.specs.Stamps.{max_tx}
use Rattle.entries.specs.declared.Run.{Run}
use Rattle.apages.specs.Inner.{PairIn}
use Rattle.card.specs.Plan.{Plan, guard, go_ahead}
use Rattle.card.specs.Files.{run_at}
use Rattle.session.specs.declared.Opened.{Opened}
use Rattle.session.specs.Views.{present_table}
use Rattle.session.specs.Fits.{fits}
use Rattle.session.specs.Session.{Session}
use Rattle.store.specs.Steps.{past_table, all_steps}

-- what a change of entry j asks: content d for run r, name n
pub record CanEdit (s : Opened) (work : List ℕ) (j : ℕ) (r : Run) (n d : List ℕ) : Type 0 where
  pub laid : LaidOut s.geo work
  pub pair : PairIn s.geo work
  pub below : j < 4 * s.geo.d
  pub short : length n ≤ 32
  pub enough : length d ≤ 512 * r.sectors
  pub top : r.start.0 + r.sectors ≤ 4096 * g_p s.geo
  pub page : r.start.0 % 4096 + r.sectors ≤ 4096
  pub room : 512 * (r.start.0 + r.sectors) ≤ length work
  pub inside : 0 < r.sectors → g_f s.geo ≤ r.start.0
  pub earlier : (run_at s.geo (present_table s (sec work)) work j).start.0 + (run_at s.geo (present_table s (sec work)) work j).sectors ≤ 4096 * g_p s.geo
  pub earlier_page : (run_at s.geo (present_table s (sec work)) work j).start.0 % 4096 + (run_at s.geo (present_table s (sec work)) work j).sectors ≤ 4096

-- what the calls ask
pub record CanMount (card : List ℕ) : Type 0 where
  pub laid : LaidOut (geo_of (sec card)) card
  pub count : count_of (sec card) < g_n (geo_of (sec card))
  pub word : get_or (table_of (geo_of (sec card)) (sec card)) (count_of (sec card)) 0 < max_tx

pub record CanSync (s : Opened) (card work : List ℕ) : Type 0 where
  pub room : s.geo.t < s.geo.s
  pub top : s.geo.s ≤ 65536
  pub table : s.geo.t ≤ 512
  pub count : s.c.0 < g_n s.geo
  pub tx : s.t.0 ≤ max_tx
  pub card_size : length card ≡ 512 * s.geo.s
  pub work_size : length work ≡ 512 * s.geo.s

-- what step number k of unmount counts
unfoldable pub counts_at : Bool → Opened → List ℕ → ℕ → List ℕ → ℕ
counts_at true s work k card = 0
counts_at false s work k card = lean_writes (past_table s + 1) k (all_steps s work []) card

-- "no call meets a session that does not fit": an open session fits; a closed one is not judged
abbrev pub FitOf : Session → List ℕ → Type 0
FitOf None work = Unit
FitOf (Some s) work = fits s work ≡ true

-- the same of a call that answers 1 before 2: an open session fits where the card has its length
abbrev pub FitOn : Session → List ℕ → List ℕ → Type 0
FitOn None card work = Unit
FitOn (Some s) card work = length card ≡ 512 * s.geo.s → fits s work ≡ true

-- what is left of sync's tests in an open session that fits: "1, 9"
unfoldable pub fitting_plan : Opened → List ℕ → Plan
fitting_plan s card = guard 1 (eqb (length card) (512 * s.geo.s)) (guard 9 (not s.worn) go_ahead)

-- the test that the public calls make: "2: .. the session does not fit"
unfoldable pub unfit : Session → List ℕ → Bool
unfit None work = false
unfit (Some s) work = not (fits s work)

-- land, sync and unmount: "4, 1, 2"
unfoldable pub unfit_on : Session → List ℕ → List ℕ → Bool
unfit_on None card work = false
unfit_on (Some s) card work = eqb (length card) (512 * s.geo.s) && not (fits s work)
