-- Demand 2, "Numbers given back", stated: each call gives number k exactly when the table says so, in its order of tests. Assumes nothing.
use Rattle.std.specs.Prelude.{◌≡◌, true, List, [], ◌∷◌, ◌⊎◌, ◌≢◌, ◌↔◌, ℕ, ◌+◌, ◌*◌, ◌%◌, ◌≤◌, ◌<◌, length, get_or, Some, None}
use Rattle.sectors.specs.Sectors.{sec}
use Rattle.counts.specs.declared.Geo.{Geo}
use Rattle.counts.specs.Geometry.{g_n, g_f, geo_of, count_of, table_of}
use Rattle.entries.specs.declared.Version.TheVariants.{Absent}
use Rattle.entries.specs.Entries.{shown, name_of, sectors_for}
use Rattle.directory.specs.Directory.{entries_of}
use Rattle.apages.specs.Bits.{bit_at}
use Rattle.card.specs.declared.Line.{Line}
use Rattle.card.specs.Files.{run_of}
use Rattle.card.specs.Means.{InLimits, GoodName, ShowsFile, Each, Sound}
use Rattle.card.specs.Make.{make}
use Rattle.card.specs.Reading.{files_shown, read, read_list, read_get}
use Rattle.session.specs.declared.Opened.{Opened}
use Rattle.session.specs.Session.{Session}
use Rattle.session.specs.Views.{present_table, cut_table, present_page, cut_page, present_files}
use Rattle.session.specs.FitMeans.{Fits}
use Rattle.store.specs.Mount.{mount}
use Rattle.store.specs.Edit.{put_at, put, remove}
use Rattle.store.specs.Look.{get, list, free}
use Rattle.store.specs.Sync.{land, sync, unmount}

-- one row of a call's table: a number, and when it is due
pub record Row : Type 1 where
  pub number : ℕ
  pub due : Type 0

abbrev pub row : ℕ → Type 0 → Row
row k P = record { number = k; due = P }

-- k is the number of the first row that is due; 0, "done", where none is
abbrev pub Gives : List Row → ℕ → Type 0
Gives [] k = k ≡ 0
Gives (r ∷ rs) k = (r.due × (k ≡ r.number)) ⊎ ((¬ r.due) × Gives rs k)

-- ---- when each number is due

-- 1: "geometry outside the limits, an image not of 512·S bytes for the S .. stored, or too short to store one"
abbrev pub Misshapen : List ℕ → Type 0
Misshapen img = (¬ InLimits (geo_of (sec img))) ⊎ (length img ≢ 512 * (geo_of (sec img)).s)

-- what is said of an open session
abbrev pub When : Session → (Opened → Type 0) → Type 0
When None P = ⊥
When (Some s) P = P s

-- an entry shows a file of that name in a view
abbrev pub Shows : List ℕ → List ℕ → List ℕ → Type 0
Shows tab n p = ShowsFile tab p × (name_of p ≡ n)

-- 6: "no such file in the present view"
abbrev pub NoFile : Geo → List ℕ → List ℕ → List ℕ → Type 0
NoFile g tab img n = Each g img (λ p. ¬ Shows tab n p)

-- 7: "put finds no entry by its rule": none is present in either view under the name, and none is absent in both views
abbrev pub NoEntry : Opened → List ℕ → List ℕ → Type 0
NoEntry s work n =
    Each s.geo work
    (λ p. (¬ Shows (present_table s (sec work)) n p) × (¬ Shows (cut_table s (sec work)) n p)
    × (¬ ((shown (present_table s (sec work)) p ≡ Absent) × (shown (cut_table s (sec work)) p ≡ Absent))))

-- 8: "put of k > 0 sectors, and no k neighbouring data sectors are free in both views"; "8 now means no such run inside any page"
abbrev pub NoRoom : Opened → List ℕ → ℕ → Type 0
NoRoom s work k =
    (0 < k) × ((a : ℕ) → g_f s.geo ≤ a → a + k ≤ s.geo.s → a % 4096 + k ≤ 4096
    → ¬ ((n : ℕ) → a ≤ n → n < a + k → (bit_at (present_page s (sec work)) n ≡ 0) × (bit_at (cut_page s (sec work)) n ≡ 0)))

-- 10: "lent output shorter than the answer": than the content of a file of that name
abbrev pub TooLong : Geo → List ℕ → List ℕ → List ℕ → List ℕ → Type 0
TooLong g tab img n out =
    (i : ℕ) × (i < length (entries_of g (sec img))) × Shows tab n (get_or (entries_of g (sec img)) i [])
    × (length out < (run_of (shown tab (get_or (entries_of g (sec img)) i []))).bytes)

-- 4: "the session is closed"; 1 of a session call; 2: "the session does not fit"; 9; 5: "name length or byte outside the rule"
abbrev pub closed : Session → Row
closed s = row 4 (s ≡ None)

abbrev pub of_card : Session → List ℕ → Row
of_card s card = row 1 (When s (λ o. length card ≢ 512 * o.geo.s))

abbrev pub unfit : Session → List ℕ → Row
unfit s work = row 2 (When s (λ o. ¬ Fits o work))

abbrev pub worn : Session → Row
worn s = row 9 (When s (λ o. o.worn ≡ true))

abbrev pub bad_name : List ℕ → Row
bad_name n = row 5 (¬ GoodName n)

-- ---- the orders: "make 1; mount 1, 2, 3; put 4, 2, 9, 5, 7, 8; remove 4, 2, 9, 5, 6; get 4, 2, 5, 6, 10; list 4, 2, 10; free 4, 2;
-- land 4, 1, 2, 11; sync 4, 1, 2, 9; unmount 4, 1, 2"; reading 1, 2, "its own list (1, 2, 10) and get (1, 2, 5, 6, 10)"

abbrev pub make_rows : Geo → List ℕ → List Row
make_rows g card = row 1 ((¬ InLimits g) ⊎ (length card ≢ 512 * g.s)) ∷ []

abbrev pub mount_rows : List ℕ → List ℕ → List Row
mount_rows card work =
    row 1 (Misshapen card ⊎ (length work ≢ length card)) ∷ row 2 (¬ Sound card) ∷ row 3 (count_of (sec card) ≡ g_n (geo_of (sec card))) ∷ []

-- put's last two rows
abbrev pub place_rows : Session → List ℕ → List ℕ → List ℕ → List Row
place_rows s work n d = row 7 (When s (λ o. NoEntry o work n)) ∷ row 8 (When s (λ o. NoRoom o work (sectors_for (length d)))) ∷ []

abbrev pub put_rows : Session → List ℕ → List ℕ → List ℕ → List Row
put_rows s work n d = closed s ∷ unfit s work ∷ worn s ∷ bad_name n ∷ place_rows s work n d

-- put with a goal: "11 for a goal of S or more, after 5 and before 7"
abbrev pub put_at_rows : Session → List ℕ → List ℕ → List ℕ → ℕ → List Row
put_at_rows s work n d goal = closed s ∷ unfit s work ∷ worn s ∷ bad_name n ∷ row 11 (When s (λ o. o.geo.s ≤ goal)) ∷ place_rows s work n d

abbrev pub remove_rows : Session → List ℕ → List ℕ → List Row
remove_rows s work n =
    closed s ∷ unfit s work ∷ worn s ∷ bad_name n ∷ row 6 (When s (λ o. NoFile o.geo (present_table o (sec work)) work n)) ∷ []

abbrev pub get_rows : Session → List ℕ → List ℕ → List ℕ → List Row
get_rows s work n out =
    closed s ∷ unfit s work ∷ bad_name n ∷ row 6 (When s (λ o. NoFile o.geo (present_table o (sec work)) work n))
    ∷ row 10 (When s (λ o. TooLong o.geo (present_table o (sec work)) work n out)) ∷ []

abbrev pub list_rows : Session → List ℕ → List Line → List Row
list_rows s work lines = closed s ∷ unfit s work ∷ row 10 (When s (λ o. length lines < length (present_files o (sec work)))) ∷ []

abbrev pub free_rows : Session → List ℕ → List Row
free_rows s work = closed s ∷ unfit s work ∷ []

abbrev pub land_rows : Session → List ℕ → List ℕ → ℕ → List Row
land_rows s card work i = closed s ∷ of_card s card ∷ unfit s work ∷ row 11 (When s (λ o. o.geo.s ≤ i)) ∷ []

abbrev pub sync_rows : Session → List ℕ → List ℕ → List Row
sync_rows s card work = closed s ∷ of_card s card ∷ unfit s work ∷ worn s ∷ []

abbrev pub unmount_rows : Session → List ℕ → List ℕ → List Row
unmount_rows s card work = closed s ∷ of_card s card ∷ unfit s work ∷ []

abbrev pub read_rows : List ℕ → List Row
read_rows img = row 1 (Misshapen img) ∷ row 2 (¬ Sound img) ∷ []

abbrev pub read_list_rows : List ℕ → List Line → List Row
read_list_rows img lines = row 1 (Misshapen img) ∷ row 2 (¬ Sound img) ∷ row 10 (length lines < length (files_shown img)) ∷ []

abbrev pub read_get_rows : List ℕ → List ℕ → List ℕ → List Row
read_get_rows img n out =
    row 1 (Misshapen img) ∷ row 2 (¬ Sound img) ∷ bad_name n ∷ row 6 (NoFile (geo_of (sec img)) (table_of (geo_of (sec img)) (sec img)) img n)
    ∷ row 10 (TooLong (geo_of (sec img)) (table_of (geo_of (sec img)) (sec img)) img n out) ∷ []

-- ---- the statement: "given exactly when"

abbrev pub Exactly : ℕ → List Row → Type 0
Exactly m rows = (k : ℕ) → (m ≡ k) ↔ Gives rows k

pub record Numbers : Type 0 where
  pub of_make : (g : Geo) (card : List ℕ) → Exactly (make g card).answer.number (make_rows g card)
  pub of_mount : (card work : List ℕ) → Exactly (mount card work).answer.number (mount_rows card work)
  pub of_put : (s : Session) (work n d : List ℕ) → Exactly (put s work n d).answer.number (put_rows s work n d)
  pub of_put_at : (s : Session) (work n d : List ℕ) (goal : ℕ) → Exactly (put_at s work n d goal).answer.number (put_at_rows s work n d goal)
  pub of_remove : (s : Session) (work n : List ℕ) → Exactly (remove s work n).answer.number (remove_rows s work n)
  pub of_get : (s : Session) (work n out : List ℕ) → Exactly (get s work n out).answer.number (get_rows s work n out)
  pub of_list : (s : Session) (work : List ℕ) (lines : List Line) → Exactly (list s work lines).answer.number (list_rows s work lines)
  pub of_free : (s : Session) (work : List ℕ) → Exactly (free s work).number (free_rows s work)
  pub of_land : (s : Session) (card work : List ℕ) (i : ℕ) → Exactly (land s card work i).answer.number (land_rows s card work i)
  pub of_sync : (s : Session) (card work : List ℕ) → Exactly (sync s card work).answer.number (sync_rows s card work)
  pub of_unmount : (s : Session) (card work : List ℕ) → Exactly (unmount s card work).answer.number (unmount_rows s card work)
  pub of_read : (img : List ℕ) → Exactly (read img).number (read_rows img)
  pub of_read_list : (img : List ℕ) (lines : List Line) → Exactly (read_list img lines).answer.number (read_list_rows img lines)
  pub of_read_get : (img n out : List ℕ) → Exactly (read_get img n out).answer.number (read_get_rows img n out)
