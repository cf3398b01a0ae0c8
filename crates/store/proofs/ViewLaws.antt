-- A session's two views as code takes them, and what put's searches find in them. Assumes nothing.
use Rattle.std.specs.Prelude.{Option}
use mathlib.Core.Path.{◌≡◌, ap, ◌∙◌}
use mathlib.Core.Bool.{true}
use mathlib.Core.List.{List, []}
use Prim.Native.Nat.{ℕ, ◌*◌, ◌<◌}
use lib.ListN.{take, drop, get_or}
use Rattle.words.specs.Lists.{first_at, or_else}
use Rattle.sectors.specs.Sectors.{sec}
use Rattle.counts.specs.declared.Stamp.{Stamp}
use Rattle.counts.specs.declared.Standing.{Standing}
use Rattle.counts.specs.declared.View.{View}
use Rattle.counts.specs.Inner.{LaidOut}
use Rattle.counts.proofs.TableLaws.{ok-laid, as_is_lem}
use Rattle.counts.specs.Stamps.{table_in, as_is, standing}
use Rattle.entries.specs.declared.Entry.{Entry}
use Rattle.entries.specs.declared.Run.{Run}
use Rattle.entries.specs.declared.Version.{Version}
use Rattle.entries.specs.Entries.{entry_of, changed}
use Rattle.entries.specs.Inner.{changed_as}
use Rattle.entries.proofs.EntryLaws.{changed-as}
use Rattle.directory.specs.Directory.{entries_of, gone, named}
use Rattle.directory.specs.Inner.{place_of}
use Rattle.directory.proofs.DirectoryLaws.{entry_at}
use Rattle.apages.specs.Index.{page_in}
use Rattle.apages.specs.Runs.{run_for}
use Rattle.card.specs.Files.{run_at}
use Rattle.card.proofs.SoundLaws.{view-inv, view-pair}
use Rattle.apages.specs.Inner.{PairIn}
use Rattle.session.specs.declared.Opened.{Opened}
use Rattle.session.specs.Views.{own_stamp, present_view, present_table, cut_table, present_page, cut_page}
use Rattle.session.specs.Fits.{fits}
use Rattle.session.proofs.FitLaws.{fit-inv}
use Rattle.store.specs.Edit.{put_place, place_in, run_in}

-- ---- what a fit gives

pub fit-laid : (s : Opened) (work : List ℕ) → fits s work ≡ true → LaidOut s.geo work
fit-laid s work h = let F = fit-inv s work h in ok-laid s.geo work F.shape F.sized

pub fit-pair : (s : Opened) (work : List ℕ) → fits s work ≡ true → PairIn s.geo work
fit-pair s work h = let F = fit-inv s work h in view-pair _ _ _ _ (view-inv _ _ _ _ F.pres_view)

-- ---- put's searches, from what the calls in them say

module _ (s : Opened) (work : List ℕ) {v w : View} (ev : v ≡ present_view s) (ew : w ≡ as_is s.geo) (laid : LaidOut s.geo work) where
  pub present-is : table_in s.geo v (sec work) ≡ present_table s (sec work)
  unfolding present_table
  present-is = rw ev

  pub cut-is : table_in s.geo w (sec work) ≡ cut_table s (sec work)
  unfolding cut_table
  cut-is = rw ew (as_is_lem s.geo work laid)

  pub place_here : (n : List ℕ) {r : Option ℕ}
      → r ≡ first_at (named (table_in s.geo v (sec work)) (table_in s.geo w (sec work)) n) 0 (entries_of s.geo (sec work))
      → or_else r (first_at (gone (table_in s.geo v (sec work)) (table_in s.geo w (sec work))) 0 (entries_of s.geo (sec work))) ≡ place_in s work n
  unfolding place_in put_place
  place_here n e = rw (e, present-is, cut-is)

  -- the two maps that are searched
  pub run-here : (k goal : ℕ) {r : Option ℕ} → r ≡ run_for k goal (page_in s.geo (table_in s.geo v (sec work)) (sec work)) (page_in s.geo (table_in s.geo w (sec work)) (sec work)) → r ≡ run_in s work k goal
  unfolding run_in present_page cut_page
  run-here k goal er = er ∙ rw (present-is, cut-is)

-- the run that entry j shows in the present view
pub run-at-here : (s : Opened) (work : List ℕ) (j : ℕ) {v : View} {r : Run} → v ≡ present_view s → r ≡ run_at s.geo (table_in s.geo v (sec work)) work j
    → r ≡ run_at s.geo (present_table s (sec work)) work j
unfolding present_table
run-at-here s work j ev er = er ∙ ap (λ (u : View). run_at s.geo (table_in s.geo u (sec work)) work j) ev

-- entry j changed, from its bytes at its place a and how its stamp stands
pub changed-here : (s : Opened) (work n : List ℕ) (j a : ℕ) (x : Version) {v : View} {own : Stamp} {e r : Entry} {st : Standing} → a ≡ place_of s.geo j → j < 4 * s.geo.d
    → v ≡ present_view s → own ≡ own_stamp s → e ≡ entry_of (take 128 (drop a work)) → st ≡ standing (table_in s.geo v (sec work)) own e.stamp
    → r ≡ changed_as st own e n x → r ≡ changed (present_table s (sec work)) (own_stamp s) (entry_of (get_or (entries_of s.geo (sec work)) j [])) n x
unfolding present_table
changed-here s work n j a x q h ev eo ee es er =
    changed-as _ _ _ n x es er ∙ rw (ee, eo, ev, q, entry_at s.geo work j h)
