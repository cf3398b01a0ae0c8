-- The numbers of make, mount, list, free, land, sync, unmount and reading. Assumes nothing.
use Rattle.std.specs.Prelude.{Some, None}
use mathlib.Core.Path.{◌≡◌, refl}
use mathlib.Core.Bool.{true, false, not, ◌&&◌}
use mathlib.Core.List.{List, [], ◌∷◌}
use mathlib.Core.Logic.{inl, inr, ⊎_elim, ◌≢◌, ◌↔◌}
use Prim.Native.Nat.{ℕ, ◌*◌, ◌≤◌}
use native.Mathlib.Omega.{arith}
use borrow.Author.Tests.{eqb-true, eqb-false, ltb-true, ltb-false, leb-true}
use lib.Dec.{leb, ltb, eqb}
use lib.ListN.{length}
use Rattle.words.proofs.BoolLaws.{both}
use Rattle.sectors.specs.Sectors.{sec}
use Rattle.counts.specs.declared.Geo.{Geo}
use Rattle.counts.specs.Geometry.{g_n, geo_ok, geo_of, count_of}
use Rattle.card.specs.declared.Line.{Line}
use Rattle.card.specs.Plan.{Report, Plan, refuse, guard, go_ahead, refused, done, Changed, Listed}
use Rattle.card.specs.Files.{list_plan, list_end}
use Rattle.card.specs.Sound.{sound_in, shape_ok, sound}
use Rattle.card.proofs.SoundLaws.{shape-inv}
use Rattle.card.specs.Means.{InLimits, Sound}
use Rattle.card.proofs.MeansParts.{limits-mean}
use Rattle.card.proofs.MeansProved.{sound-means}
use Rattle.card.specs.Make.{make_plan, make}
use Rattle.card.specs.Reading.{files_shown, read_plan, read, read_list}
use Rattle.session.specs.declared.Opened.{Opened}
use Rattle.session.specs.Session.{Session}
use Rattle.session.specs.Views.{present_files, session_files}
use Rattle.session.specs.Fits.{fits}
use Rattle.session.specs.FitMeans.{Fits}
use Rattle.session.proofs.FitMeansProved.{fits-mean}
use Rattle.store.specs.Mount.{Ended, mount_plan, mount_done, mount}
use Rattle.store.specs.Given.{Room}
use Rattle.store.specs.Look.{list_tests, list, no_figures, figures, free}
use Rattle.store.specs.Sync.{both_plan, land, sync_done, sync, unmount_done, unmount}
use Rattle.promises_answers.specs.Numbers.{Row, row, Exactly, Misshapen, closed, make_rows, mount_rows, list_rows, free_rows, land_rows, sync_rows, unmount_rows, read_rows, read_list_rows}
use Rattle.promises_answers.proofs.RowLaws.{Follows, exactly, number_of, ended-number, done-row, guard-row, means-row, not-row, eq-row, le-row, lt-row, and-fails, clash, closed-row, open_row}

-- ---- the shape of a card

pub outside : (g : Geo) → geo_ok g ≡ false → ¬ InLimits g
outside g e L = clash ((limits-mean g).1 L) e

pub misshapen : (img : List ℕ) → shape_ok img ≡ false → Misshapen img
unfolding shape_ok
misshapen img h =
    ⊎_elim (λ q. inl (outside (geo_of (sec img)) q)) (λ q. inr (eqb-false _ _ q)) (and-fails (geo_ok (geo_of (sec img))) (eqb (length img) (512 * (geo_of (sec img)).s)) h)

pub shapely : (img : List ℕ) → shape_ok img ≡ true → ¬ Misshapen img
unfolding shape_ok
shapely img h m =
    let (a, b) = both (geo_ok (geo_of (sec img))) (eqb (length img) (512 * (geo_of (sec img)).s)) h in
    ⊎_elim (λ q. q ((limits-mean (geo_of (sec img))).0 a)) (λ q. q (eqb-true _ _ b)) m

-- a card of the right shape is sound exactly when the clauses hold
pub shaped-means : (img : List ℕ) → shape_ok img ≡ true → (sound img ≡ true) ↔ Sound img
shaped-means img h = let (a, b) = shape-inv img h in sound-means img ((limits-mean (geo_of (sec img))).0 a) b

-- the first two rows of every reading call
pub reading : (img : List ℕ) (p : Plan) (rows : List Row) → (shape_ok img ≡ true → sound img ≡ true → Follows rows p)
    → Follows (row 1 (Misshapen img) ∷ row 2 (¬ Sound img) ∷ rows) (read_plan img p)
unfolding read_plan
reading img p rows g =
    guard-row 1 (shape_ok img) _ (Misshapen img) _ (misshapen img) (shapely img) (λ e. means-row 2 (sound img) p rows (shaped-means img e) (g e))

-- ---- make and mount

pub of-make : (g : Geo) (card : List ℕ) → Exactly (make g card).answer.number (make_rows g card)
unfolding make refused done make_plan
of-make g card =
    exactly
    (ended-number (λ (r : Changed). r.answer.number) _ _ (λ k. refl) (λ j a. refl) (make_plan g card))
    (guard-row 1 (geo_ok g && eqb (length card) (512 * g.s)) go_ahead _ []
    (λ e. ⊎_elim (λ q. inl (outside g q)) (λ q. inr (eqb-false _ _ q)) (and-fails (geo_ok g) (eqb (length card) (512 * g.s)) e))
    (λ e m. let (a, b) = both (geo_ok g) (eqb (length card) (512 * g.s)) e in
    ⊎_elim (λ q. q ((limits-mean g).0 a)) (λ q. q (eqb-true _ _ b)) m)
    (λ e. done-row))

-- a sound card has C at most N
pub count_most : (img : List ℕ) → sound img ≡ true → count_of (sec img) ≤ g_n (geo_of (sec img))
unfolding sound sound_in
count_most img h =
    let (a, b) = both _ _ h in
    let (c, d) = both _ _ a in
    let (e, f) = both _ _ c in
    leb-true _ _ (both (leb (count_of (sec img)) (g_n (geo_of (sec img)))) _ e).0

pub of-mount : (card work : List ℕ) → Exactly (mount card work).answer.number (mount_rows card work)
unfolding mount mount_done refused done mount_plan
of-mount card work =
    exactly
    (ended-number (λ (r : Ended). r.answer.number) _ _ (λ k. refl) (λ j a. refl) (mount_plan card work))
    (guard-row 1 (shape_ok card && eqb (length work) (length card)) _ _ _
    (λ e. ⊎_elim (λ q. inl (misshapen card q)) (λ q. inr (eqb-false _ _ q)) (and-fails (shape_ok card) (eqb (length work) (length card)) e))
    (λ e m. let (a, b) = both (shape_ok card) (eqb (length work) (length card)) e in ⊎_elim (shapely card a) (λ q. q (eqb-true _ _ b)) m)
    (λ e. means-row 2 (sound card) _ _ (shaped-means card (both (shape_ok card) (eqb (length work) (length card)) e).0)
    (λ s. guard-row 3 (ltb (count_of (sec card)) (g_n (geo_of (sec card)))) go_ahead (count_of (sec card) ≡ g_n (geo_of (sec card))) [] (λ l. omega (arith, ltb-false (count_of (sec card)) (g_n (geo_of (sec card))) l, count_most card s))
    (λ l q. omega (arith, q, ltb-true (count_of (sec card)) (g_n (geo_of (sec card))) l)) (λ l. done-row))))

-- ---- reading

pub of-read : (img : List ℕ) → Exactly (read img).number (read_rows img)
unfolding read
of-read img =
    exactly
    (ended-number (λ (r : Report). r.number) _ _ (λ k. refl) (λ j a. refl) (read_plan img go_ahead))
    (reading img go_ahead [] (λ e s. done-row))

pub list-number : (files lines : List Line) (p : Plan) → (list_end files lines p).answer.number ≡ number_of p
unfolding list_end refused done
list-number files lines p = ended-number (λ (r : Listed). r.answer.number) _ _ (λ k. refl) (λ j a. refl) p

pub of-read-list : (img : List ℕ) (lines : List Line) → Exactly (read_list img lines).answer.number (read_list_rows img lines)
unfolding read_list list_plan
of-read-list img lines =
    exactly (list-number (files_shown img) lines _)
    (reading img _ _ (λ e s. le-row 10 (length (files_shown img)) (length lines) go_ahead [] (λ l. done-row)))

-- ---- an open session

pub of-list : (s : Session) (work : List ℕ) (lines : List Line) → Exactly (list s work lines).answer.number (list_rows s work lines)
unfolding list list_tests list_plan session_files
of-list None work lines = exactly {rows = list_rows None work lines} {p = refuse 4} (list-number [] lines (refuse 4)) closed-row
of-list (Some s) work lines =
    exactly (list-number (present_files s (sec work)) lines _)
    (open_row s (means-row 2 (fits s work) _ _ (fits-mean s work)
    (λ e. le-row 10 (length (present_files s (sec work))) (length lines) go_ahead [] (λ l. done-row))))

pub of-free : (s : Session) (work : List ℕ) → Exactly (free s work).number (free_rows s work)
unfolding free no_figures figures number_of
of-free None work = exactly {rows = free_rows None work} {p = refuse 4} refl closed-row
of-free (Some s) work =
    exactly
    (ended-number (λ (r : Room). r.number) _ _ (λ k. refl) (λ j a. refl) (guard 2 (fits s work) go_ahead))
    (open_row s (means-row 2 (fits s work) go_ahead [] (fits-mean s work) (λ e. done-row)))

-- the first rows of the calls with two images
pub two-images : (s : Opened) (card work : List ℕ) (p : Plan) (rows : List Row) → Follows rows p
    → Follows (closed (Some s) ∷ row 1 (length card ≢ 512 * s.geo.s) ∷ row 2 (¬ Fits s work) ∷ rows) (both_plan s card work p)
unfolding both_plan
two-images s card work p rows g =
    open_row s (eq-row 1 (length card) (512 * s.geo.s) _ _ (λ e. means-row 2 (fits s work) p rows (fits-mean s work) (λ f. g)))

pub of-land : (s : Session) (card work : List ℕ) (i : ℕ) → Exactly (land s card work i).answer.number (land_rows s card work i)
unfolding land refused done number_of
of-land None card work i = exactly {rows = land_rows None card work i} {p = refuse 4} refl closed-row
of-land (Some s) card work i =
    exactly
    (ended-number (λ (r : Changed). r.answer.number) _ _ (λ k. refl) (λ j a. refl) (both_plan s card work (guard 11 (ltb i s.geo.s) go_ahead)))
    (two-images s card work _ _ (lt-row 11 i s.geo.s go_ahead [] (λ l. done-row)))

pub of-sync : (s : Session) (card work : List ℕ) → Exactly (sync s card work).answer.number (sync_rows s card work)
unfolding sync sync_done refused done number_of
of-sync None card work = exactly {rows = sync_rows None card work} {p = refuse 4} refl closed-row
of-sync (Some s) card work =
    exactly
    (ended-number (λ (r : Ended). r.answer.number) _ _ (λ k. refl) (λ j a. refl) (both_plan s card work (guard 9 (not s.worn) go_ahead)))
    (two-images s card work _ _ (not-row 9 s.worn go_ahead [] (λ l. done-row)))

pub of-unmount : (s : Session) (card work : List ℕ) → Exactly (unmount s card work).answer.number (unmount_rows s card work)
unfolding unmount unmount_done refused done number_of
of-unmount None card work = exactly {rows = unmount_rows None card work} {p = refuse 4} refl closed-row
of-unmount (Some s) card work =
    exactly
    (ended-number (λ (r : Ended). r.answer.number) _ _ (λ k. refl) (λ j a. refl) (both_plan s card work go_ahead))
    (two-images s card work go_ahead [] (done-row))
