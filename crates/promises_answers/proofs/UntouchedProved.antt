-- What Untouched states, proved. Assumes nothing.
use Rattle.std.specs.Prelude.{Some}
use mathlib.Core.Path.{◌≡◌, refl, sym, ◌∙◌}
use mathlib.Core.List.{List, []}
use mathlib.Core.Logic.{◌⊎◌, inl, inr, ◌↔◌}
use Prim.Native.Nat.{ℕ, ◌+◌, ◌*◌, ◌/◌, ◌≤◌, ◌<◌}
use native.Mathlib.Omega.{arith}
use lib.ListN.{length, take, drop, get_or, set}
use Rattle.words.specs.Lists.{pad}
use Rattle.words.proofs.SpliceLaws.{range_same}
use Rattle.sectors.specs.declared.Sector.{Sector}
use Rattle.sectors.specs.Sectors.{sec}
use Rattle.sectors.proofs.FlatLaws.{flat-same}
use Rattle.counts.specs.declared.Geo.{Geo}
use Rattle.counts.specs.Geometry.{g_f}
use Rattle.counts.proofs.TableLaws.{past_index}
use Rattle.entries.specs.declared.Run.{Run}
use Rattle.entries.specs.declared.Version.{Version}
use Rattle.entries.specs.declared.Version.TheVariants.{Absent, Present}
use Rattle.entries.specs.Entries.{entry_of, entry_bytes, changed, sectors_for, pieces_of}
use Rattle.entries.proofs.ChangeLaws.{pad-length}
use Rattle.directory.specs.Directory.{entries_of}
use Rattle.card.specs.Plan.{do_it, ended, done}
use Rattle.card.specs.Files.{FileHolds, pieces_in, files_of, cover, run_of}
use Rattle.card.proofs.PieceLaws.{run-bytes}
use Rattle.session.specs.declared.Opened.{Opened}
use Rattle.session.specs.Views.{own_stamp, present_table, cut_table, cut_page}
use Rattle.session.proofs.FitLaws.{fit-inv, present-live}
use Rattle.store.specs.Edit.{put_content, put_plan, put_run, put_work, put_at, remove_plan, remove_work, remove, edit_work}
use Rattle.store.specs.Inner.{CanEdit}
use Rattle.store.proofs.RoomLaws.{can-put, can-remove}
use Rattle.store.proofs.Plans.{put_inv, put-num, remove-inv, remove-num}
use Rattle.promises_answers.proofs.Ready.{tp_of, old_run, Ready, spot}
use Rattle.promises_answers.proofs.Change.{edit-length, data-put, left_alone, entries-now, cut-now, pair-kept}
use Rattle.promises_answers.proofs.Calls.{put-ready, remove-ready}
use Rattle.promises_answers.proofs.AnswersProved.{run-free, done-plan}
use Rattle.promises_answers.proofs.BitsNow.{InRun, holds-new, holds-old, runs-change, same_head, same-table, bit-set, bit-clear, bit-same}
use Rattle.promises_answers.specs.Untouched.{earlier_run, Changes, Untouched}

-- the content, as it was put
content-there : (r : Run) (d work : List ℕ) → 512 * (r.start.0 + r.sectors) ≤ length work → length d ≤ 512 * r.sectors
    → take (512 * r.sectors) (drop (512 * r.start.0) (put_content r d work)) ≡ pad (512 * r.sectors) d
unfolding put_content
content-there r d work l e = range_same work (512 * r.start.0) (512 * r.sectors) (pad (512 * r.sectors) d) (pad-length (512 * r.sectors) d e) (omega arith)

-- ---- one change of an entry

module _ (s : Opened) (j a k : ℕ) (v : Version) (work n d : List ℕ) (R : Ready s j a k v work n d (sec work)) (C : CanEdit s work j (run_of v) n d)
    (free : (i : ℕ) → a ≤ i → i < a + k → cover (files_of (tp_of s work) (entries_of s.geo (sec work))) i ≡ 0) where
  abbrev g : Geo
  g = s.geo

  abbrev after : List ℕ
  after = edit_work s j v work n d

  same-others : (i : ℕ) → g_f g ≤ i → ¬ InRun a k i → sec after i ≡ sec work i
  unfolding g_f
  same-others i h o =
      left_alone s j a k v work n d (sec work) R i (omega (arith, (spot s j a k v work n d (sec work) R).high)) (omega (arith, past_index g)) (λ q. omega (arith, q.1)) o

  content-now : pieces_in after (pieces_of (run_of v)) ≡ pad (512 * (run_of v).sectors) d
  content-now =
      run-bytes after (run_of v) ∙ flat-same after (put_content (run_of v) d work) (run_of v).sectors (run_of v).start.0 same ∙ content-there (run_of v) d work C.room C.enough
    where
      same : (i : ℕ) → (run_of v).start.0 ≤ i → i < (run_of v).start.0 + (run_of v).sectors → sec after i ≡ sec (put_content (run_of v) d work) i
      same i lo hi = data-put s j a k v work n d (sec work) R i (R.inside i (omega (arith, R.is.0)) (omega (arith, R.is.0, R.is.1)))

  -- ---- the map that the cut view shows

  same-cut : cut_page s (sec after) ≡ cut_page s (sec work)
  unfolding cut_page cut_table
  same-cut = rw (same-table s j a k v work n d R C free) (cut-now s j a k v work n d (sec work) R)

  entries-are : entries_of g (sec after)
      ≡ set (entries_of g (sec work)) j (entry_bytes (changed (present_table s (sec work)) (own_stamp s) (entry_of (get_or (entries_of g (sec work)) j [])) n v))
  unfolding own_stamp
  entries-are = rw (present-live s (sec work) R.live) (entries-now s j a k v work n d (sec work) R)

  new : (i : ℕ) → FileHolds (run_of v) i ↔ InRun a k i
  new = holds-new s work j a k v R.live R.is

  old : (i : ℕ) → FileHolds (earlier_run s work j) i ↔ InRun (old_run s j work).start.0 (old_run s j work).sectors i
  old = holds-old s work j a k v R.live R.is

  changes : (q : ℕ) → ((0 < k) × (q ≡ a / 4096)) ⊎ ((0 < (old_run s j work).sectors) × (q ≡ (old_run s j work).start.0 / 4096)) → Changes s work j v q
  changes = runs-change s work j a k v R.live R.is

  pub edit-untouched : Untouched s j v work n d after
  edit-untouched =
      record {
        size = edit-length s j a k v work n d (sec work) R ∙ sym R.fit.sized;
        head = same_head s j a k v work n d R C free;
        entries = entries-are;
        others = λ i h o. same-others i h (λ q. o ((new i).1 q));
        content = content-now;
        taken = λ i h. bit-set s j a k v work n d R C free i ((new i).0 h);
        freed = λ i h. bit-clear s j a k v work n d R C free i ((old i).0 h);
        bits = λ i o u. bit-same s j a k v work n d R C free i (λ q. o ((new i).1 q)) (λ q. u ((old i).1 q));
        pairs = λ q l o. pair-kept s j a k v work n d (sec work) R q l (λ w. o (changes q (inl w))) (λ w. o (changes q (inr w)));
        cut = same-cut;
      }

-- ---- put and remove

pub put-untouched : (s : Opened) (work n d : List ℕ) (goal j : ℕ) (a : Sector) → put_plan s work n d goal ≡ do_it j a
    → Untouched s j (Present (put_run a d)) work n d (put_work s j a work n d)
unfolding put_work
put-untouched s work n d goal j a h =
    let p = put_inv s work n d goal j a h in
    edit-untouched s j a.0 (sectors_for (length d)) (Present (put_run a d)) work n d (put-ready s work (sec work) refl n d goal j a h)
    (unfold run_of in can-put s work n d goal j a p.fit p.name p.entry p.run)
    (run-free s work (fit-inv s work p.fit) p.live (sectors_for (length d)) goal a.0 p.run)

pub remove-untouched : (s : Opened) (work n : List ℕ) (j : ℕ) (a : Sector) → remove_plan s work n ≡ do_it j a → Untouched s j Absent work n [] (remove_work s j work n)
unfolding remove_work
remove-untouched s work n j a h =
    let p = remove-inv s work n j a h in
    edit-untouched s j 0 0 Absent work n [] (remove-ready s work (sec work) refl n j a h) (can-remove s work n j p.fit p.name p.entry)
    (λ i lo hi. absurd (omega arith))

-- ---- as the calls answer: 0 goes with an entry and a run, and the call leaves the image so changed

put-leaves : (s : Opened) (work n d : List ℕ) (goal j : ℕ) (a : Sector) → put_plan s work n d goal ≡ do_it j a
    → Untouched s j (Present (put_run a d)) work n d (put_at (Some s) work n d goal).image
unfolding put_at
put-leaves s work n d goal j a h = rw h (unfold ended in put-untouched s work n d goal j a h)

remove-leaves : (s : Opened) (work n : List ℕ) (j : ℕ) (a : Sector) → remove_plan s work n ≡ do_it j a → Untouched s j Absent work n [] (remove (Some s) work n).image
unfolding remove
remove-leaves s work n j a h = rw h (unfold ended in remove-untouched s work n j a h)

pub put-changes : (s : Opened) (work n d : List ℕ) (goal : ℕ) → (put_at (Some s) work n d goal).answer.number ≡ 0
    → (j : ℕ) × (a : Sector) × (put_plan s work n d goal ≡ do_it j a) × Untouched s j (Present (put_run a d)) work n d (put_at (Some s) work n d goal).image
unfolding put_at
put-changes s work n d goal h =
    let (j, a, e) = done-plan work (λ i b. record { answer = done 0; image = put_work s i b work n d }) (put-num s work n d goal) h in
    (j, a, e, put-leaves s work n d goal j a e)

pub remove-changes : (s : Opened) (work n : List ℕ) → (remove (Some s) work n).answer.number ≡ 0
    → (j : ℕ) × (a : Sector) × (remove_plan s work n ≡ do_it j a) × Untouched s j Absent work n [] (remove (Some s) work n).image
unfolding remove
remove-changes s work n h =
    let (j, a, e) = done-plan work (λ i b. record { answer = done 0; image = remove_work s i work n }) (remove-num s work n) h in
    (j, a, e, remove-leaves s work n j a e)
