-- A wrong build: "Accepting a dead stamp at C: a later sync brings it to life." It breaks `MountShows`, on a card that is computed. Assumes nothing.
use Rattle.std.specs.Prelude.{Some, None}
use mathlib.Core.Path.{◌≡◌, refl}
use mathlib.Core.Bool.{Bool, true, false, ◌&&◌}
use mathlib.Core.List.{List, []}
use mathlib.Core.Option.{none, some}
use Prim.Native.Nat.{ℕ, ◌+◌}
use lib.ListN.{length, drop}
use lib.Dec.{leb, ltb, eqb}
use Rattle.words.proofs.BoolLaws.{never}
use Rattle.words.specs.Lists.{every, pairwise, is_zero, pad}
use Rattle.sectors.specs.Sectors.{Cells, sec, apply_steps}
use Rattle.counts.specs.declared.Geo.{Geo}
use Rattle.counts.specs.Geometry.{g_n, geo_of, count_of, table_of}
use Rattle.counts.specs.Stamps.{table_ok}
use Rattle.entries.specs.declared.Entry.{Entry}
use Rattle.entries.specs.declared.Version.TheVariants.{Absent, Present}
use Rattle.entries.specs.Entries.{entry_bytes}
use Rattle.directory.specs.Directory.{entries_of, set_entry, apart}
use Rattle.card.specs.Plan.{Plan, go_ahead, guard, ended, refused, done}
use Rattle.card.specs.Sound.{view_ok, shape_ok, sound}
use Rattle.card.specs.Make.{fresh_card}
use Rattle.store.specs.Steps.{mount_steps, sync_steps}
use Rattle.store.specs.Mount.{Ended, mount_plan, opened_from, mount_done, mount}
use Rattle.promises_answers.specs.PlainList.{Item, shown_by, shown_in, lookup}
use Rattle.promises_crash.proofs.SteadyProved.{mount-shows}
use Rattle.promises_trials.proofs.TrialsCard.{ten, a, stretch, computes}

-- ---- the build

-- mount, by any test of soundness
unfoldable pub mount_plan_by : (List ℕ → Bool) → List ℕ → List ℕ → Plan
mount_plan_by good card work =
    guard 1 (shape_ok card && eqb (length work) (length card))
    (guard 2 (good card) (guard 3 (ltb (count_of (sec card)) (g_n (geo_of (sec card)))) go_ahead))

unfoldable pub mount_by : (List ℕ → Bool) → List ℕ → List ℕ → Ended
mount_by good card work =
    ended (mount_plan_by good card work) (λ k. record { answer = refused k; session = None; card = card; work = work }) (λ j a. mount_done card)

-- what `MountShows` says, of any such mount
abbrev pub MountShowsOf : (List ℕ → Bool) → Type 0
MountShowsOf good =
    (card work : List ℕ) → (mount_by good card work).answer.number ≡ 0 → shown_in (mount_by good card work).session (mount_by good card work).work ≡ shown_by card

-- of the mount of this store it is proved
pub of-this-mount : MountShowsOf sound
unfolding mount_by mount_plan_by mount mount_plan
of-this-mount = mount-shows

-- the test that lets a dead stamp have cc at C too
unfoldable pub late_in : Geo → Cells → Bool
late_in g k =
    leb (count_of k) (g_n g) && every is_zero (drop 16 (k 0)) && table_ok g (count_of k) (table_of g k) && view_ok g (count_of k + 1) (table_of g k) k
    && pairwise (apart (table_of g k) (table_of g k)) (entries_of g k)

unfoldable pub sound_late : List ℕ → Bool
sound_late img = late_in (geo_of (sec img)) (sec img)

-- ---- the card: fresh, but for one entry with the stamp (C, word C + 1) = (0, 1), whose new version is a file `a` of 0 bytes

unfoldable pub dead_entry : Entry
dead_entry =
    record {
      stamp = record { cc = record { 0 = 0 }; txc = record { 0 = 1 } };
      size = 1;
      name = pad 32 a;
      new = Present (record { start = record { 0 = 0 }; sectors = 0; bytes = 0 });
      old = Absent;
    }

unfoldable pub dead_card : List ℕ
dead_card = set_entry (record { sector = 5; slot = 0 }) (entry_bytes dead_entry) (fresh_card ten)

-- this store refuses it; the build mounts it
pub dead-refused : (shape_ok dead_card ≡ true) × (sound dead_card ≡ false)
unfolding computes dead_entry dead_card
dead-refused = (refl, refl)

pub late-mounts : (mount_plan_by sound_late dead_card dead_card ≡ go_ahead) × (opened_from dead_card ≡ stretch 1)
unfolding computes dead_entry dead_card mount_plan_by sound_late late_in
late-mounts = (refl, refl)

-- both images after that mount
unfoldable pub late_start : List ℕ
late_start = apply_steps (mount_steps dead_card) dead_card

-- and the card after a sync, with nothing put
unfoldable pub late_synced : List ℕ
late_synced = apply_steps (sync_steps (stretch 1) late_start late_start []) late_start

-- what the card shows, what the session shows, and what the card shows after the sync
pub late-shows : (lookup a (shown_by dead_card) ≡ none) × (lookup a (shown_in (Some (stretch 1)) late_start) ≡ some []) × (lookup a (shown_by late_synced) ≡ some [])
unfolding computes dead_entry dead_card late_start late_synced shown_by
late-shows = (refl, refl, refl)

-- ---- the promise

late-done : mount_by sound_late dead_card dead_card ≡ mount_done dead_card
unfolding mount_by ended
late-done = rw late-mounts.0

late-zero : (mount_by sound_late dead_card dead_card).answer.number ≡ 0
unfolding mount_done done
late-zero = rw late-done

-- what the session shows has `a`, and what the card shows has not
late-tells : lookup a (shown_in (mount_done dead_card).session (mount_done dead_card).work) ≡ some []
unfolding mount_done
late-tells = rw late-mounts.1 (unfold late_start in late-shows.1)

none-some : (x y : List Item) → lookup a x ≡ some [] → lookup a y ≡ none → x ≡ y → ⊥
none-some x y p q e = let z : ◌≡◌ {A = ℕ} 0 1 = cc in never z

-- it is refused: the session shows `a`, which the card did not show
pub dead-at-c : ¬ MountShowsOf sound_late
dead-at-c h = none-some _ _ late-tells late-shows.0 (rw late-done at (h dead_card dead_card late-zero))
