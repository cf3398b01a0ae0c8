-- What put's searches found lies where a change may go: the entry in the directory, the run inside the data. Assumes nothing.
use Rattle.std.specs.Prelude.{Option, Some}
use mathlib.Core.Path.{◌≡◌, refl, sym, ◌∙◌}
use mathlib.Core.Bool.{true}
use mathlib.Core.List.{List, []}
use Prim.Native.Nat.{ℕ, zero, suc, ◌+◌, ◌-◌, ◌*◌, ◌%◌, ◌≤◌, ◌<◌}
use native.Mathlib.Omega.{arith}
use lib.ListN.{length}
use Rattle.words.specs.Lists.{first_at}
use Rattle.words.proofs.FirstLaws.{at_one, found_at}
use Rattle.sectors.specs.declared.Sector.{Sector}
use Rattle.sectors.specs.Sectors.{sec}
use Rattle.counts.specs.declared.Geo.{Geo}
use Rattle.counts.specs.Geometry.{g_n, g_p, g_f, table_of}
use Rattle.counts.proofs.GeoLaws.{Limits, limits}
use Rattle.entries.specs.declared.Run.{Run}
use Rattle.entries.specs.declared.Version.{Version}
use Rattle.entries.specs.declared.Version.TheVariants.{Absent, Present}
use Rattle.entries.specs.Entries.{good_name, sectors_for}
use Rattle.entries.proofs.PassLaws.{RunIs, run_room, shown-run, short-name}
use Rattle.directory.specs.Directory.{entries_of, named}
use Rattle.directory.proofs.DirectoryLaws.{entries-length, entries-lt}
use Rattle.apages.specs.Bits.{bit_at}
use Rattle.apages.specs.Runs.{run_for}
use Rattle.apages.proofs.LowestLaws.{run-for, run-page}
use Rattle.card.specs.Files.{run_of, run_at}
use Rattle.card.proofs.BitmapLaws.{InData}
use Rattle.card.proofs.SpaceLaws.{page-wide, clear-bit}
use Rattle.card.proofs.SoundLaws.{View, view-inv, entry-passes}
use Rattle.session.specs.declared.Opened.{Opened}
use Rattle.session.specs.Views.{present_table, cut_table, present_page, cut_page}
use Rattle.session.specs.Fits.{fits}
use Rattle.session.proofs.FitLaws.{Fit, fit-inv}
use Rattle.store.specs.Edit.{place_in, run_in, put_run}
use Rattle.store.proofs.ViewLaws.{fit-laid, fit-pair}
use Rattle.store.specs.Inner.{CanEdit}
use Rattle.store.proofs.PlaceLaws.{place-named}

-- the sectors of a version, where its run passes
pub version-room : (g : Geo) (v : Version) → ((r : Run) → v ≡ Present r → RunIs g r) → (run_of v).start.0 + (run_of v).sectors ≤ g.s
unfolding run_of
version-room g Absent h = omega arith
version-room g (Present r) h = run_room g r (h r refl)

pub version-page : (g : Geo) (v : Version) → ((r : Run) → v ≡ Present r → RunIs g r) → (run_of v).start.0 % 4096 + (run_of v).sectors ≤ 4096
unfolding run_of
version-page g Absent h = omega arith
version-page g (Present r) h = (h r refl).page

module _ (s : Opened) (work : List ℕ) (F : Fit s work) where
  L : Limits s.geo
  L = limits s.geo F.shape

  abbrev p : List ℕ
  p = present_page s (sec work)

  abbrev q : List ℕ
  q = cut_page s (sec work)

  pres : View s.geo s.c.0 (present_table s (sec work)) (sec work)
  pres = view-inv s.geo s.c.0 (present_table s (sec work)) (sec work) F.pres_view

  pub present-wide : length p ≡ 512 * g_p s.geo
  unfolding present_page
  present-wide = page-wide s.geo s.c.0 (present_table s (sec work)) work F.shape F.sized pres

  pub cut-wide : length q ≡ 512 * g_p s.geo
  unfolding cut_page cut_table
  cut-wide =
      page-wide s.geo (g_n s.geo) (table_of s.geo (sec work)) work F.shape F.sized
      (view-inv s.geo (g_n s.geo) (table_of s.geo (sec work)) (sec work) F.cut_view)

  pub alike : length p ≡ length q
  alike = present-wide ∙ sym cut-wide

  -- the run that was found lies inside the data, free in both views
  pub room_in : (k goal a : ℕ) → 0 < k → run_in s work k goal ≡ Some a
      → (g_f s.geo ≤ a) × (a + k ≤ s.geo.s) × (a % 4096 + k ≤ 4096) × ((n : ℕ) → a ≤ n → n < a + k → (bit_at p n ≡ 0) × (bit_at q n ≡ 0))
  unfolding run_in
  room_in k goal a h e =
      let (r, i, f) = (run-for k goal a p q h alike e).room in
      let u = in-the-data a (omega (arith, present-wide)) (f a (omega arith) (omega arith)).0 in
      let v = in-the-data (a + k - 1) (omega (arith, present-wide)) (f (a + k - 1) (omega arith) (omega arith)).0 in
      (u.0, omega (arith, v.1), i, f)
    where
      in-the-data : (n : ℕ) → n < 4096 * g_p s.geo → bit_at p n ≡ 0 → InData s.geo n
      in-the-data n l z = (clear-bit s.geo s.c.0 (present_table s (sec work)) (sec work) F.shape pres (unfold present_page in present-wide) n l (unfold present_page in z)).0

  run-room-in : (k goal a : ℕ) → run_in s work k goal ≡ Some a → a + k ≤ s.geo.s
  unfolding run_in run_for
  run-room-in zero goal a e = omega (arith, at_one e)
  run-room-in (suc k) goal a e = (room_in (suc k) goal a (omega arith) e).1

  run-page-in : (k goal a : ℕ) → run_in s work k goal ≡ Some a → a % 4096 + k ≤ 4096
  unfolding run_in
  run-page-in k goal a e = run-page k goal a p q alike e

  -- the sectors that entry j's file holds in the present view
  earlier-room : (j : ℕ) → j < 4 * s.geo.d
      → (run_at s.geo (present_table s (sec work)) work j).start.0 + (run_at s.geo (present_table s (sec work)) work j).sectors ≤ s.geo.s
  unfolding run_at
  earlier-room j h =
      let P = entry-passes s.geo s.c.0 (present_table s (sec work)) (sec work) j [] pres (entries-lt s.geo work j h) in
      version-room s.geo _ (λ r e. shown-run s.geo (present_table s (sec work)) _ P.wf e)

  -- they lie in one page
  earlier-page : (j : ℕ) → j < 4 * s.geo.d
      → (run_at s.geo (present_table s (sec work)) work j).start.0 % 4096 + (run_at s.geo (present_table s (sec work)) work j).sectors ≤ 4096
  unfolding run_at
  earlier-page j h =
      let P = entry-passes s.geo s.c.0 (present_table s (sec work)) (sec work) j [] pres (entries-lt s.geo work j h) in
      version-page s.geo _ (λ r e. shown-run s.geo (present_table s (sec work)) _ P.wf e)

  -- the entry that put uses is one of the directory
  place-below : (n : List ℕ) (j : ℕ) → place_in s work n ≡ Some j → j < 4 * s.geo.d
  unfolding place_in
  place-below n j h =
      omega
      (arith, entries-length s.geo work, (place-named (present_table s (sec work)) (cut_table s (sec work)) n (entries_of s.geo (sec work)) j h).below)

  -- what put's tests showed is what its change asks
  put-able : (j goal : ℕ) (a : Sector) (n d : List ℕ) → fits s work ≡ true → good_name n ≡ true → place_in s work n ≡ Some j → run_in s work (sectors_for (length d)) goal ≡ Some a.0
      → CanEdit s work j (put_run a d) n d
  unfolding put_run g_f
  put-able j goal a n d f g p r =
      let k = sectors_for (length d) in
      let room = run-room-in k goal a.0 r in
      let below = place-below n j p in
      record {
        laid = fit-laid s work f;
        pair = fit-pair s work f;
        below = below;
        short = short-name n g;
        enough = unfold sectors_for in omega arith;
        top = omega (arith, L.covered);
        page = run-page-in k goal a.0 r;
        room = omega (arith, F.sized);
        inside = λ h. (room_in k goal a.0 h r).0;
        earlier = omega (arith, earlier-room j below, L.covered);
        earlier_page = earlier-page j below;
      }

  remove-able : (j : ℕ) (n : List ℕ) → fits s work ≡ true → good_name n ≡ true → j < 4 * s.geo.d → CanEdit s work j (run_of Absent) n []
  unfolding run_of
  remove-able j n f g below =
      record {
        laid = fit-laid s work f;
        pair = fit-pair s work f;
        below = below;
        short = short-name n g;
        enough = omega arith;
        top = omega arith;
        page = omega arith;
        room = omega arith;
        inside = λ h. absurd (omega arith);
        earlier = omega (arith, earlier-room j below, L.covered);
        earlier_page = earlier-page j below;
      }

pub can-put : (s : Opened) (work n d : List ℕ) (goal j : ℕ) (a : Sector) → fits s work ≡ true → good_name n ≡ true → place_in s work n ≡ Some j
    → run_in s work (sectors_for (length d)) goal ≡ Some a.0 → CanEdit s work j (put_run a d) n d
can-put s work n d goal j a f g p r = put-able s work (fit-inv s work f) j goal a n d f g p r

pub can-remove : (s : Opened) (work n : List ℕ) (j : ℕ) → fits s work ≡ true → good_name n ≡ true
    → first_at (named (present_table s (sec work)) (present_table s (sec work)) n) 0 (entries_of s.geo (sec work)) ≡ Some j → CanEdit s work j (run_of Absent) n []
can-remove s work n j f g h =
    let b = (found_at (named (present_table s (sec work)) (present_table s (sec work)) n) [] (entries_of s.geo (sec work)) j h).0 in
    remove-able s work (fit-inv s work f) j n f g (omega (arith, entries-length s.geo work))

-- the run that code looked for, for as many sectors as the content takes
pub run-so : (s : Opened) (work : List ℕ) (goal : ℕ) {k m : ℕ} {r o : Option ℕ} → k ≡ m → r ≡ run_in s work k goal → r ≡ o → run_in s work m goal ≡ o
run-so s work goal e er eo = rw (sym e) (sym er ∙ eo)
