-- What is promised, in one place: each field is one statement, and the file that has its words is named where it is brought in below. `promises` (PromisesProved)
-- proves the record. Demand 1's equations stand in the contracts themselves: `contracts` (promises_tight/TightProved). Assumes nothing.
use Rattle.std.specs.Prelude.{◌≡◌, false, List, [], ◌∷◌, ℕ, ◌+◌, length, take, Some}
use Rattle.sectors.specs.declared.Sector.{Sector}
use Rattle.sectors.specs.Sectors.{Step, apply_steps}
use Rattle.entries.specs.declared.Version.TheVariants.{Absent, Present}
use Rattle.card.specs.Plan.{do_it}
use Rattle.session.specs.declared.Opened.{Opened}
use Rattle.store.specs.Steps.{mount_steps, sync_steps, unmount_steps}
use Rattle.store.specs.Edit.{put_plan, put_run, put_at, remove_plan, remove}
use Rattle.store.specs.Look.{free}
use Rattle.promises_answers.specs.Numbers.{Row, Gives, Numbers}
use Rattle.promises_answers.specs.Refusals.{Refusals}
use Rattle.promises_crash.specs.NoTwo.{NoTwo, InTable}
use Rattle.promises_answers.specs.PlainCalls.{AllShow}
use Rattle.promises_answers.specs.Answers.{PutAnswers, RemoveAnswers}
use Rattle.promises_crash.specs.Steady.{MakeShows, MountShows, MountCut, SyncShows, UnmountShows, LandShows, Refused}
use Rattle.promises_answers.specs.Places.{PutPlaces, RemovePlaces}
use Rattle.promises_answers.specs.Untouched.{Untouched}
use Rattle.promises_answers.specs.PairLeaves.{PutPairs, RemovePairs}
use Rattle.promises_answers.specs.Barriers.{barriers_from, barriers, copies}
use Rattle.promises_crash.specs.Leaves.{LandChanges, MountChanges, SyncChanges, UnmountChanges, CountsNothing}
use Rattle.promises_crash.specs.Along.{Simulation}
use Rattle.promises_crash.specs.FitKept.{FitsIn, KeepsFit}
use Rattle.promises_crash.specs.History.{Left, World, Call, before, steps_of, pending_in, Reach, Demand3}
use Rattle.promises_crash.specs.Whole.{CutsReadWhole}
use Rattle.promises_crash.specs.Sharp.{UnmountSharp}
use Rattle.promises_crash.specs.Free.{FreePromise, MountFree}
use Rattle.promises_crash.specs.Fewer.{AsBefore, Counts, Bounds, Closer}
use Rattle.promises_answers.specs.Goals.{Goals}
use Rattle.promises_crash.specs.Field.{Since, Demand3Field}
use Rattle.promises_crash.specs.HostRuns.{HostHistories}
use Rattle.promises_crash.specs.HostFits.{HostFits}
use Rattle.promises_crash.specs.Worries.{SyncAtTop, WornOnlyLooks, NoCountAbove, CountsUsedUp, NoneWakes}

pub record Promises : Type 1 where
  -- ---- the numbers: each call gives k exactly when the table says so; the table's words leave one number, and it is one of 0 to 11
  pub numbers : Numbers
  pub one_number : (rows : List Row) (j k : ℕ) → Gives rows j → Gives rows k → j ≡ k
  pub in_table : InTable
  -- ---- refusals: "A refusal returns its number and a zero count", and changes nothing
  pub refusals : Refusals
  pub refused_stay : (w : World) → Refused w
  -- ---- the plain list: every answer is that of a list of names with contents, which goes along with every history
  pub plain_list : Simulation
  pub shows : AllShow
  pub put_answers : PutAnswers
  pub remove_answers : RemoveAnswers
  pub make_shows : MakeShows
  pub mount_shows : MountShows
  pub mount_cut : MountCut
  pub sync_shows : SyncShows
  pub unmount_shows : UnmountShows
  pub land_shows : LandShows
  -- ---- the bytes: which entry and run put and remove take, what each call leaves, and what is counted
  pub put_places : PutPlaces
  pub remove_places : RemovePlaces
  pub put_leaves : (s : Opened) (work n d : List ℕ) (goal : ℕ) → (put_at (Some s) work n d goal).answer.number ≡ 0
      → (j : ℕ) × (a : Sector) × (put_plan s work n d goal ≡ do_it j a) × Untouched s j (Present (put_run a d)) work n d (put_at (Some s) work n d goal).image
  pub remove_leaves : (s : Opened) (work n : List ℕ) → (remove (Some s) work n).answer.number ≡ 0
      → (j : ℕ) × (a : Sector) × (remove_plan s work n ≡ do_it j a) × Untouched s j Absent work n [] (remove (Some s) work n).image
  pub put_pairs : PutPairs
  pub remove_pairs : RemovePairs
  pub mount_leaves : MountChanges
  pub land_leaves : LandChanges
  pub sync_leaves : SyncChanges
  pub unmount_leaves : UnmountChanges
  pub counts_nothing : CountsNothing
  -- ---- fits: every call keeps a session's fit, so in every history an open session fits and no call answers 2
  pub keeps_fit : KeepsFit
  pub always_fits : (w : World) → Since w → FitsIn w.session w.work
  pub no_two : (w : World) → Reach w → NoTwo w
  -- ---- where the barriers of mount, sync and unmount stand
  pub mount_barriers : (card : List ℕ) → barriers (mount_steps card) ≡ 1 ∷ []
  pub sync_barriers : (s : Opened) (card work : List ℕ) (r : List Step)
      → barriers (sync_steps s card work r) ≡ copies s card work ∷ (copies s card work + 1) ∷ barriers_from (copies s card work + 1) r
  pub unmount_barriers : (s : Opened) (card work : List ℕ) → s.worn ≡ false → barriers (unmount_steps s card work) ≡ copies s card work ∷ (copies s card work + 1) ∷ []
  -- ---- every cut: demand 3; the reading calls whole; sharper inside unmount; and it is not empty, between calls and between steps
  pub cuts : Demand3
  pub cuts_read : CutsReadWhole
  pub sharp : UnmountSharp
  pub possible : (w : World) → Reach w → Left w.pending (length w.card) w.card
  pub possible_in : (w : World) → Reach w → (c : Call) (n : ℕ) → Left (pending_in c n w) (length w.card) (apply_steps (take n (steps_of c (before c w))) w.card)
  -- ---- document 02: the free figure, fewer writes at sync, put with a goal
  pub free_figures : FreePromise free
  pub mount_free : MountFree
  pub as_before : AsBefore
  pub counts : Counts
  pub bounds : Bounds
  pub closer : Closer
  pub goals : Goals
  -- ---- what a module runs: a history of host functions is a history of calls
  pub host_histories : HostHistories
  pub host_fits : HostFits
  -- ---- the tester's worries, of histories from any sound card; a card just made is one
  pub every_cut : Demand3Field
  pub from_fresh : (w : World) → Reach w → Since w
  pub sync_at_top : SyncAtTop
  pub worn_only_looks : WornOnlyLooks
  pub no_count_above : NoCountAbove
  pub counts_used_up : CountsUsedUp
  pub none_wakes : NoneWakes
