-- The base of a live session: the image of the latest mount or sync; a put or remove that gives 0 keeps it. Assumes nothing.
use mathlib.Core.Path.{◌≡◌, refl, sym}
use mathlib.Core.Bool.{true}
use mathlib.Core.List.{List, []}
use Prim.Native.Nat.{ℕ, ◌+◌, ◌*◌, ◌≤◌, ◌<◌}
use lib.ListN.{length, get_or}
use Rattle.sectors.specs.declared.Sector.{Sector}
use Rattle.sectors.specs.Sectors.{sec}
use Rattle.counts.specs.Geometry.{g_n, g_f, geo_ok, count_of, table_of}
use Rattle.counts.specs.Stamps.{max_tx}
use Rattle.entries.specs.declared.Version.{Version}
use Rattle.entries.specs.declared.Version.TheVariants.{Absent, Present}
use Rattle.entries.specs.Entries.{sectors_for}
use Rattle.apages.specs.Index.{index_in}
use Rattle.card.specs.Plan.{do_it}
use Rattle.card.specs.Sound.{sound_in}
use Rattle.card.proofs.SoundLaws.{sound-view, view-page}
use Rattle.card.proofs.FileLaws.{Holds}
use Rattle.card.specs.Reading.{files_in}
use Rattle.session.specs.declared.Opened.{Opened}
use Rattle.store.specs.Edit.{put_plan, put_run, put_work, remove_plan, remove_work, edit_work}
use Rattle.promises_answers.proofs.Keep.{Keeps, kept-files, tab-same}
use Rattle.promises_answers.proofs.Edit.{wrote-keeps}
use Rattle.promises_answers.proofs.Ready.{own_of, Ready}
use Rattle.promises_answers.proofs.Change.{edit-length}
use Rattle.promises_answers.proofs.Writes.{wrote}
use Rattle.promises_answers.proofs.Calls.{remove-ready, put-ready}
use Rattle.promises_answers.proofs.Items.{base-data}

pub record Base (s : Opened) (img₀ : List ℕ) : Type 0 where
  pub ok : geo_ok s.geo ≡ true
  pub hc : s.c.0 < g_n s.geo
  pub ht : s.t.0 ≤ max_tx
  pub count : s.c.0 < count_of (sec img₀)
  pub good : sound_in s.geo (sec img₀) ≡ true
  pub word : get_or (table_of s.geo (sec img₀)) s.c.0 0 + 1 ≡ s.t.0
  pub sized : length img₀ ≡ 512 * s.geo.s

-- ---- one change keeps

module _ (s : Opened) (img₀ : List ℕ) (B : Base s img₀) (work : List ℕ) (P : (i : ℕ) → Keeps s.geo (own_of s) (sec img₀) i (sec work i)) where
  change-keeps : (j a k : ℕ) (v : Version) (n d : List ℕ) → Ready s j a k v work n d (sec img₀)
      → (i : ℕ) → Keeps s.geo (own_of s) (sec img₀) i (sec (edit_work s j v work n d) i)
  unfolding index_in
  change-keeps j a k v n d R =
      λ i.
      wrote-keeps s.geo (own_of s) (sec img₀) (sec work) (sec (edit_work s j v work n d)) P
      (view-page s.geo _ _ (sec img₀) (sound-view s.geo (sec img₀) B.good)) in-data i
      (wrote s j a k v work n d (sec img₀) R (sym table) (λ p l. sym (rw table (((P (s.geo.t + 1)).index refl).groups p l).page)) in-data i)
    where
      table : table_of s.geo (sec work) ≡ table_of s.geo (sec img₀)
      table = tab-same s.geo (own_of s) (sec img₀) (sec work) P

      in-data : (i : ℕ) → Holds (files_in s.geo (sec img₀)) i → g_f s.geo ≤ i
      in-data i h = (base-data s.geo (sec img₀) B.good i h).0

  -- what a call that gives 0 leaves in the working image
  pub record Kept (work' : List ℕ) : Type 0 where
    pub sized : length work' ≡ 512 * s.geo.s
    pub keeps : (i : ℕ) → Keeps s.geo (own_of s) (sec img₀) i (sec work' i)

  same-files : files_in s.geo (sec work) ≡ files_in s.geo (sec img₀)
  same-files = kept-files s.geo (own_of s) (sec img₀) (sec work) P

  left : (j a k : ℕ) (v : Version) (n d : List ℕ) → Ready s j a k v work n d (sec img₀) → Kept (edit_work s j v work n d)
  left j a k v n d R = record { sized = edit-length s j a k v work n d (sec img₀) R; keeps = change-keeps j a k v n d R }

  pub remove-left : (n : List ℕ) (j : ℕ) (a : Sector) → remove_plan s work n ≡ do_it j a → Kept (remove_work s j work n)
  unfolding remove_work
  remove-left n j a h = left j 0 0 Absent n [] (remove-ready s work (sec img₀) same-files n j a h)

  pub put-left : (n d : List ℕ) (goal j : ℕ) (a : Sector) → put_plan s work n d goal ≡ do_it j a → Kept (put_work s j a work n d)
  unfolding put_work
  put-left n d goal j a h = left j a.0 (sectors_for (length d)) (Present (put_run a d)) n d (put-ready s work (sec img₀) same-files n d goal j a h)
