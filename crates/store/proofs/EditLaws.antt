-- The writes of a change one after the other: content, entry, bitmap. The first two leave table and index as they are. Assumes nothing.
use mathlib.Core.Path.{◌≡◌, ap, ◌∙◌}
use mathlib.Core.List.{List, []}
use Prim.Native.Nat.{ℕ, ◌+◌, ◌-◌, ◌*◌, ◌≤◌, ◌<◌}
use native.Mathlib.Omega.{arith}
use lib.ListN.{length, get_or, replicate}
use Rattle.words.specs.Lists.{splice, pad}
use Rattle.words.proofs.SpliceLaws.{splice-length, splice-then}
use Rattle.sectors.specs.Sectors.{sec}
use Rattle.sectors.proofs.FlatLaws.{run-other}
use Rattle.counts.specs.declared.Stamp.{Stamp}
use Rattle.counts.specs.Geometry.{g_dir}
use Rattle.counts.specs.declared.View.{View}
use Rattle.counts.proofs.GeoLaws.{table_same}
use Rattle.counts.specs.Inner.{LaidOut}
use Rattle.counts.specs.Stamps.{table_in}
use Rattle.entries.specs.declared.Entry.{Entry}
use Rattle.entries.specs.declared.Run.{Run}
use Rattle.entries.specs.declared.Version.{Version}
use Rattle.entries.specs.Entries.{entry_of, entry_bytes, changed}
use Rattle.entries.proofs.CodecLaws.{entry_bytes-length}
use Rattle.entries.proofs.ChangeLaws.{pad-length}
use Rattle.directory.specs.Directory.{entries_of, spot_of, set_entry}
use Rattle.directory.proofs.DirectoryLaws.{entries-lt}
use Rattle.directory.proofs.SpotLaws.{SpotOk, at-spot, entry_length, entry_other}
use Rattle.apages.specs.Index.{index_in, change_bits}
use Rattle.card.specs.Files.{run_of, run_at}
use Rattle.session.specs.declared.Opened.{Opened}
use Rattle.session.specs.Views.{own_stamp, present_view, present_table}
use Rattle.store.specs.Edit.{put_content, edit_work}
use Rattle.apages.specs.Inner.{PairIn}
use Rattle.store.specs.Inner.{CanEdit}

-- ---- the content

-- "The last sector is filled with zeros."
pub content-put : (r : Run) (d img : List ℕ) {t u : List ℕ} → t ≡ splice img (512 * r.start.0) d
    → u ≡ splice t (512 * r.start.0 + length d) (replicate (512 * r.sectors - length d) 0) → u ≡ put_content r d img
unfolding put_content pad
content-put r d img e f = f ∙ rw e (splice-then img (512 * r.start.0) d _)

pub content-length : (r : Run) (d img : List ℕ) → length (put_content r d img) ≡ length img
unfolding put_content
content-length r d img = splice-length img (512 * r.start.0) _

pub content-other : (r : Run) (d img : List ℕ) → length d ≤ 512 * r.sectors → (i : ℕ) → ¬ ((r.start.0 ≤ i) × (i < r.start.0 + r.sectors)) → sec (put_content r d img) i ≡ sec img i
unfolding put_content
content-other r d img h i o = run-other img r.start.0 r.sectors (pad (512 * r.sectors) d) i (pad-length (512 * r.sectors) d h) o

-- ---- content and entry, then the bitmap

module _ (s : Opened) (work n d : List ℕ) (j : ℕ) (v : Version) (C : CanEdit s work j (run_of v) n d) where
  abbrev new_entry : Entry
  new_entry = changed (present_table s (sec work)) (own_stamp s) (entry_of (get_or (entries_of s.geo (sec work)) j [])) n v

  abbrev with_entry : List ℕ
  with_entry = set_entry (spot_of s.geo j) (entry_bytes new_entry) (put_content (run_of v) d work)

  entry-wide : length (entry_bytes new_entry) ≡ 128
  unfolding changed
  entry-wide = entry_bytes-length _ (pad-length 32 n C.short)

  spot : SpotOk (g_dir s.geo) (g_dir s.geo + s.geo.d) (spot_of s.geo j)
  spot = (at-spot s.geo (sec work) j [] (entries-lt s.geo work j C.below)).0

  spot-room : 512 * (spot_of s.geo j).sector + 512 ≤ length (put_content (run_of v) d work)
  spot-room = omega (arith, content-length (run_of v) d work, spot.high, C.laid.room)

  with-length : length with_entry ≡ length work
  with-length = entry_length (spot_of s.geo j) (entry_bytes new_entry) (put_content (run_of v) d work) spot-room spot.four entry-wide ∙ content-length (run_of v) d work

  -- the table and the index stay as they are
  kept : (i : ℕ) → i < g_dir s.geo → sec with_entry i ≡ sec work i
  kept i h =
      entry_other (spot_of s.geo j) (entry_bytes new_entry) (put_content (run_of v) d work) spot-room spot.four entry-wide i (λ e. omega (arith, spot.low))
      ∙ content-other (run_of v) d work C.enough i (λ q. omega (arith, C.inside (omega (arith, q.0, q.1)), q.0))

  module _ {run : Run} {e : Entry} {w₁ w₂ : List ℕ} (er : run ≡ run_of v) (ee : e ≡ new_entry) (e₁ : w₁ ≡ put_content run d work) (e₂ : w₂ ≡ set_entry (spot_of s.geo j) (entry_bytes e) w₁) where
    with-is : w₂ ≡ with_entry
    with-is = e₂ ∙ rw (ee, e₁, er)

    pub edit-laid : LaidOut s.geo w₂
    edit-laid =
        let l : length w₂ ≡ length work = ap length with-is ∙ with-length in
        record { s = C.laid.s; t = C.laid.t; d = C.laid.d; past = C.laid.past; dir = C.laid.dir; room = omega (arith, C.laid.room) }

    pub edit-pair : PairIn s.geo w₂
    unfolding index_in
    edit-pair = rw (with-is, kept (s.geo.t + 1) (omega arith)) C.pair

    table : table_in s.geo (present_view s) (sec with_entry) ≡ present_table s (sec work)
    unfolding table_in present_table
    table = rw (table_same s.geo (sec work) (sec with_entry) (λ i lo hi. kept i (omega arith)))

    pub edit-done : {view : View} {own : Stamp} {earlier : Run} {w₃ : List ℕ} → view ≡ present_view s → own ≡ own_stamp s
        → earlier ≡ run_at s.geo (present_table s (sec work)) work j
        → w₃ ≡ change_bits s.geo (table_in s.geo view (sec w₂)) own run earlier w₂ → w₃ ≡ edit_work s j v work n d
    unfolding edit_work
    edit-done ev eo ea e₃ = e₃ ∙ rw (ev, eo, er, ea, with-is, table)
