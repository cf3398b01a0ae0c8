-- A fitting session and a sound card answer as a plain list of names with contents does, proved. Assumes nothing.
use Rattle.std.specs.Prelude.{Some}
use mathlib.Core.Path.{◌≡◌, refl, sym, ◌∙◌}
use mathlib.Core.Bool.{true}
use mathlib.Core.List.{List, ◌++◌}
use Prim.Native.Nat.{ℕ, ◌+◌, ◌≤◌}
use native.Mathlib.Omega.{arith}
use lib.ListN.{length, drop}
use Rattle.words.specs.Lists.{pairwise}
use Rattle.sectors.specs.Sectors.{sec}
use Rattle.counts.specs.declared.Geo.{Geo}
use Rattle.counts.specs.Geometry.{g_n, g_f, geo_of, count_of, table_of}
use Rattle.entries.specs.Entries.{good_name}
use Rattle.directory.specs.Directory.{entries_of, apart}
use Rattle.apages.proofs.FreeLaws.{free-waiting}
use Rattle.card.specs.declared.Line.{Line}
use Rattle.card.specs.Plan.{Plan, guard, ended, go_ahead, done}
use Rattle.card.specs.Files.{files_of, sectors_of, get_plan, get_end, list_plan, list_end}
use Rattle.card.proofs.SoundLaws.{View, view-inv, sound-inv, sound-view, shape-inv, shape-intro}
use Rattle.card.proofs.SpaceLaws.{view-space, card-space}
use Rattle.card.specs.Sound.{shape_ok, sound}
use Rattle.card.proofs.MeansParts.{limits-mean, name-means}
use Rattle.card.proofs.MeansProved.{sound-means}
use Rattle.card.specs.Reading.{files_in, files_shown, read_plan, read, read_list, read_get}
use Rattle.session.specs.declared.Opened.{Opened}
use Rattle.session.specs.Views.{present_table, present_page, cut_page, present_files, session_files}
use Rattle.session.specs.Fits.{fits}
use Rattle.session.proofs.FitLaws.{Fit, fit-inv}
use Rattle.session.proofs.FitMeansProved.{fits-mean}
use Rattle.store.specs.Look.{get, list_tests, list, figures, free}
use Rattle.store.proofs.RoomLaws.{alike}
use Rattle.promises_answers.specs.PlainList.{lookup, shown_by, shown_in}
use Rattle.promises_answers.specs.PlainCalls.{plain_get, Lines, SessionShows, CardShows, AllShow}
use Rattle.promises_answers.proofs.ListLaws.{list_of}
use Rattle.promises_answers.proofs.ViewShows.{lines-length, view-names, view-told, view-get, view-list}

-- ---- a session

module _ (s : Opened) (work : List ℕ) (fit : fits s work ≡ true) where
  F : Fit s work
  F = fit-inv s work fit

  abbrev tp : List ℕ
  tp = present_table s (sec work)

  U : View s.geo s.c.0 tp (sec work)
  U = view-inv s.geo s.c.0 tp (sec work) F.pres_view

  is-list : shown_in (Some s) work ≡ list_of tp work (entries_of s.geo (sec work))
  unfolding shown_in session_files present_files
  is-list = refl

  get-is : (n out : List ℕ) → get (Some s) work n out ≡ get_end s.geo tp work out (get_plan s.geo tp work n out)
  unfolding get guard
  get-is n out = rw fit

  list-is : (lines : List Line) → list (Some s) work lines ≡ list_end (present_files s (sec work)) lines (list_plan (present_files s (sec work)) (length lines))
  unfolding list list_tests session_files guard
  list-is lines = rw fit

  pub free-is : free (Some s) work ≡ figures s work
  unfolding free guard ended
  free-is = rw fit

  -- by counting alone, however the two views lie to each other
  sums : (figures s work).free + (figures s work).waiting + sectors_of (present_files s (sec work)) + g_f s.geo ≡ s.geo.s
  unfolding figures present_page present_files
  sums =
      omega
      (arith, free-waiting (present_page s (sec work)) (cut_page s (sec work)) (alike s work F), view-space s.geo s.c.0 tp work F.shape F.sized U)

  session-lists : (lines : List Line) → length (shown_in (Some s) work) ≤ length lines
      → list (Some s) work lines ≡ record { answer = done (length (shown_in (Some s) work)); lines = present_files s (sec work) ++ drop (length (shown_in (Some s) work)) lines }
  unfolding present_files shown_in session_files
  session-lists lines h = list-is lines ∙ view-list s.geo s.c.0 tp (table_of s.geo (sec work)) work F.shape F.sized U F.alone lines h

  session-frees : ((free (Some s) work).number ≡ 0)
      × ((free (Some s) work).free + (free (Some s) work).waiting + sectors_of (present_files s (sec work)) + g_f s.geo ≡ s.geo.s)
  session-frees = rw free-is (unfold figures in refl, sums)

  pub session-shows : SessionShows s work
  session-shows =
      record {
        names = rw is-list (view-names s.geo s.c.0 tp (table_of s.geo (sec work)) work F.shape F.sized U F.alone);
        gets = λ n out good. get-is n out ∙ rw is-list (view-get s.geo s.c.0 tp (table_of s.geo (sec work)) work F.shape F.sized U F.alone n out ((name-means n).1 good));
        tells = rw is-list (unfold present_files in view-told s.geo s.c.0 tp (table_of s.geo (sec work)) work F.shape F.sized U F.alone);
        lists = session-lists;
        frees = session-frees;
      }

-- ---- a card

module _ (card : List ℕ) (shape : shape_ok card ≡ true) (good : sound card ≡ true) where
  abbrev g : Geo
  g = geo_of (sec card)

  abbrev tab : List ℕ
  tab = table_of (geo_of (sec card)) (sec card)

  abbrev es : List (List ℕ)
  es = entries_of (geo_of (sec card)) (sec card)

  W : View g (count_of (sec card)) tab (sec card)
  unfolding sound
  W = sound-view g (sec card) good

  lone : pairwise (apart tab tab) es ≡ true
  unfolding sound
  lone = (sound-inv g (sec card) good).alone

  shown-list : shown_by card ≡ list_of tab card es
  unfolding shown_by files_shown files_in
  shown-list = refl

  files-list : files_shown card ≡ files_of tab es
  unfolding files_shown files_in
  files-list = refl

  read_is : (p : Plan) → read_plan card p ≡ p
  unfolding read_plan guard
  read_is p = rw (shape, good)

  card-gets : (n out : List ℕ) → good_name n ≡ true → read_get card n out ≡ plain_get (lookup n (shown_by card)) out
  unfolding read_get
  card-gets n out q =
      rw (read_is (get_plan g tab card n out), shown-list) (view-get g (count_of (sec card)) tab tab card (shape-inv card shape).0 (shape-inv card shape).1 W lone n out q)

  card-lists : (lines : List Line) → length (shown_by card) ≤ length lines
      → read_list card lines ≡ record { answer = done (length (shown_by card)); lines = files_shown card ++ drop (length (shown_by card)) lines }
  unfolding read_list
  card-lists lines h =
      rw (read_is (list_plan (files_shown card) (length lines)), shown-list, files-list)
      (view-list g (count_of (sec card)) tab tab card (shape-inv card shape).0 (shape-inv card shape).1 W lone lines (rw shown-list at h))

  card-told : Lines (shown_by card) (files_shown card)
  card-told = rw (shown-list, files-list) (view-told g (count_of (sec card)) tab tab card (shape-inv card shape).0 (shape-inv card shape).1 W lone)

  card-counts : ((read card).number ≡ 0) × ((read card).c.0 ≡ count_of (sec card)) × ((read card).n ≡ g_n (geo_of (sec card)))
      × ((read card).files ≡ length (shown_by card)) × ((read card).free + sectors_of (files_shown card) + g_f (geo_of (sec card)) ≡ (geo_of (sec card)).s)
  unfolding read ended
  card-counts = rw (read_is go_ahead) (refl, refl, refl, sym (lines-length card-told), card-space card shape good)

  pub card-shows : CardShows card
  card-shows =
      record {
        names = rw shown-list (view-names g (count_of (sec card)) tab tab card (shape-inv card shape).0 (shape-inv card shape).1 W lone);
        gets = λ n out good. card-gets n out ((name-means n).1 good);
        tells = card-told;
        lists = card-lists;
        counts = card-counts;
      }

pub all-show : AllShow
all-show = (
  λ s work f. session-shows s work ((fits-mean s work).1 f),
  λ card l n q. card-shows card (shape-intro (geo_of (sec card)) card refl ((limits-mean (geo_of (sec card))).1 l) n) ((sound-means card l n).1 q),
)
