-- Document 02, "Fewer writes at sync", stated: what sync and unmount leave, and how many writes they report. A reader needs both documents and this file. Assumes nothing.
use Rattle.std.specs.Prelude.{◌≡◌, Bool, true, false, not, cond, ◌&&◌, ◌||◌, List, [], ℕ, zero, suc, ◌+◌, ◌/◌, ◌≤◌, leb, ltb, eqb, length, Some, None}
use Rattle.words_sums.specs.Sums.{bit, total}
use Rattle.sectors.specs.declared.Sector.{Sector}
use Rattle.sectors.specs.Sectors.{sec, apply_steps, differs}
use Rattle.counts.specs.declared.Geo.{Geo}
use Rattle.counts.specs.Geometry.{g_p}
use Rattle.entries.specs.Entries.{sectors_for}
use Rattle.directory.specs.Directory.{spot_of}
use Rattle.card.specs.Plan.{Plan, guard, go_ahead, ended, refused, done}
use Rattle.card.specs.Files.{run_at}
use Rattle.session.specs.declared.Opened.{Opened}
use Rattle.session.specs.Session.{Session}
use Rattle.session.specs.Views.{present_table}
use Rattle.store.specs.Steps.{all_steps, all_down, at_top, sync_work, unmount_work}
use Rattle.store.specs.Mount.{Ended}
use Rattle.store.specs.Edit.{put_plan, put_at, remove_plan, remove}
use Rattle.store.specs.Sync.{both_plan, grown, sync, unmount}
use Rattle.promises_crash.specs.History.{World, Call, make_c, mount_c, sync_c, unmount_c, put_c, remove_c, land_c, get_c, list_c, free_c, by_number, Reach, fresh, call, cut, cut_in}

-- ---- what they leave is what document 01's leave

-- document 01's sync, which "copies every sector but the table to the card" whatever the card holds, and counts 0
unfoldable pub full_sync : Session → List ℕ → List ℕ → Ended
full_sync None card work = record { answer = refused 4; session = None; card = card; work = work }
full_sync (Some s) card work =
    ended (both_plan s card work (guard 9 (not s.worn) go_ahead))
    (λ k. record { answer = refused k; session = Some s; card = card; work = work })
    (λ j a. record { answer = done 0; session = Some (grown (at_top s) s); card = apply_steps (all_steps s work []) card; work = sync_work s work })

-- and its unmount
unfoldable pub full_unmount : Session → List ℕ → List ℕ → Ended
full_unmount None card work = record { answer = refused 4; session = None; card = card; work = work }
full_unmount (Some s) card work =
    ended (both_plan s card work go_ahead) (λ k. record { answer = refused k; session = Some s; card = card; work = work })
    (λ j a. record { answer = done 0; session = None; card = apply_steps (all_down s work) card; work = unmount_work s work })

-- two ends of a call alike but for the count
pub record Alike (a b : Ended) : Type 0 where
  pub number : a.answer.number ≡ b.answer.number
  pub session : a.session ≡ b.session
  pub card : a.card ≡ b.card
  pub work : a.work ≡ b.work

-- for every session and every two images
abbrev pub AsBefore : Type 0
AsBefore = (o : Session) (card work : List ℕ) → Alike (sync o card work) (full_sync o card work) × Alike (unmount o card work) (full_unmount o card work)

-- ---- "and report how many they wrote"

-- 1 for a sector outside the table in which card and working image differ, else 0
unfoldable pub differs_at : Geo → List ℕ → List ℕ → ℕ → ℕ
differs_at g card work i = cond (leb 1 i && leb i g.t) 0 (differs card work i)

-- in how many sectors outside the table they differ
unfoldable pub differing : Geo → List ℕ → List ℕ → ℕ
differing g card work = total (differs_at g card work) g.s

-- the sectors that differ, whoever changed the card, and the table sector; "A worn unmount reports 0; the write of sector 0 is not counted."
pub record Counts : Type 0 where
  pub of_sync : (s : Opened) (card work : List ℕ) → (sync (Some s) card work).answer.number ≡ 0 → (sync (Some s) card work).answer.count ≡ differing s.geo card work + 1
  pub of_unmount : (s : Opened) (card work : List ℕ) → s.worn ≡ false → (unmount (Some s) card work).answer.number ≡ 0
      → (unmount (Some s) card work).answer.count ≡ differing s.geo card work + 1
  pub of_worn : (s : Opened) (card work : List ℕ) → s.worn ≡ true → (unmount (Some s) card work).answer.count ≡ 0

-- ---- "Prove that it is at most .."

-- "the data sectors of all puts since the last sync or mount, plus the puts and removes that succeeded": what it is after a call, from what it was before
unfoldable pub changes_by : Call → World → ℕ → ℕ
changes_by (make_c g) w n = n
changes_by mount_c w n = 0
changes_by sync_c w n = by_number (sync w.session w.card w.work).answer.number 0 n
changes_by unmount_c w n = by_number (unmount w.session w.card w.work).answer.number 0 n
changes_by (put_c name d goal) w n = by_number (put_at w.session w.work name d goal).answer.number (sectors_for (length d) + 1 + n) n
changes_by (remove_c name) w n = by_number (remove w.session w.work name).answer.number (1 + n) n
changes_by (land_c i) w n = n
changes_by (get_c name out) w n = n
changes_by (list_c lines) w n = n
changes_by free_c w n = n

-- the same of a history; it is 0 exactly while no put or remove succeeded
unfoldable pub changes : {w : World} → Reach w → ℕ
changes (fresh g work ok) = 0
changes (call {w} r c) = changes_by c w (changes r)
changes (cut r card work l) = 0
changes (cut_in r c n card work l) = 0

-- the pairs of apages of the card that a session is open on
unfoldable pub pairs_of : Session → ℕ
pairs_of None = 0
pairs_of (Some s) = g_p s.geo

-- "plus P + 2. A sync with no change writes exactly 1." in every history: one card, one working image, and nothing but our calls on them
pub record Bounds : Type 0 where
  pub of_sync : {w : World} (r : Reach w) → (sync w.session w.card w.work).answer.count ≤ changes r + pairs_of w.session + 2
  pub of_unmount : {w : World} (r : Reach w) → (unmount w.session w.card w.work).answer.count ≤ changes r + pairs_of w.session + 2
  pub no_change : {w : World} (r : Reach w) → changes r ≡ 0 → (sync w.session w.card w.work).answer.number ≡ 0
      → (sync w.session w.card w.work).answer.count ≡ 1

-- ---- closer than that: each sector counts once, a page only where a bit of it changed, the index only where there is such a page

-- sectors and pages, each as a test
pub record Marks : Type 0 where
  pub sectors : ℕ → Bool
  pub pages : ℕ → Bool

abbrev pub no_marks : Marks
no_marks = record { sectors = λ i. false; pages = λ q. false }

-- the sectors that a change writes, index and pages aside: that of its entry, and the k sectors of its content from a on
unfoldable pub hit_by : Opened → ℕ → Sector → ℕ → ℕ → Bool
hit_by s j a k i = eqb i (spot_of s.geo j).sector || (leb a.0 i && ltb i (a.0 + k))

-- page q has k sectors from a on; no page has none
unfoldable pub page_has : ℕ → ℕ → ℕ → Bool
page_has a k q = ltb 0 k && eqb q (a / 4096)

-- page q has a bit that the change makes another: one of its content, or of the earlier sectors
unfoldable pub bits_in : Opened → List ℕ → ℕ → Sector → ℕ → ℕ → Bool
bits_in s work j a k q = let e = run_at s.geo (present_table s (sec work)) work j in page_has a.0 k q || page_has e.start.0 e.sectors q

-- the marks m, and those of a change of k sectors where its plan goes through
unfoldable pub marked : Opened → List ℕ → ℕ → Plan → Marks → Marks
marked s work k p m = ended p (λ n. m) (λ j a. record { sectors = λ i. hit_by s j a k i || m.sectors i; pages = λ q. bits_in s work j a k q || m.pages q })

unfoldable pub put_marks : Session → List ℕ → List ℕ → List ℕ → ℕ → Marks → Marks
put_marks None work n d goal m = m
put_marks (Some s) work n d goal m = marked s work (sectors_for (length d)) (put_plan s work n d goal) m

unfoldable pub remove_marks : Session → List ℕ → List ℕ → Marks → Marks
remove_marks None work n m = m
remove_marks (Some s) work n m = marked s work 0 (remove_plan s work n) m

-- "since the last sync or mount": what is marked after a call, from what was marked before
unfoldable pub marks_by : Call → World → Marks → Marks
marks_by (make_c g) w m = m
marks_by mount_c w m = no_marks
marks_by sync_c w m = by_number (sync w.session w.card w.work).answer.number no_marks m
marks_by unmount_c w m = by_number (unmount w.session w.card w.work).answer.number no_marks m
marks_by (put_c name d goal) w m = put_marks w.session w.work name d goal m
marks_by (remove_c name) w m = remove_marks w.session w.work name m
marks_by (land_c i) w m = m
marks_by (get_c name out) w m = m
marks_by (list_c lines) w m = m
marks_by free_c w m = m

unfoldable pub marks : {w : World} → Reach w → Marks
marks (fresh g work ok) = no_marks
marks (call {w} r c) = marks_by c w (marks r)
marks (cut r card work l) = no_marks
marks (cut_in r c n card work l) = no_marks

-- how many of the numbers below n are marked, and whether one is
unfoldable pub counted : (ℕ → Bool) → ℕ → ℕ
counted f n = total (λ i. bit (f i)) n

unfoldable pub some_of : (ℕ → Bool) → ℕ → Bool
some_of f zero = false
some_of f (suc n) = some_of f n || f n

-- the marked sectors and pages, the index where there is such a page, and the table sector
unfoldable pub closer_of : Marks → Session → ℕ
closer_of m None = 0
closer_of m (Some s) = counted m.sectors s.geo.s + counted m.pages (g_p s.geo) + bit (some_of m.pages (g_p s.geo)) + 1

pub record Closer : Type 0 where
  pub of_sync : {w : World} (r : Reach w) → (sync w.session w.card w.work).answer.count ≤ closer_of (marks r) w.session
  pub of_unmount : {w : World} (r : Reach w) → (unmount w.session w.card w.work).answer.count ≤ closer_of (marks r) w.session
  -- it is never above the bound of document 02
  pub within : {w : World} (r : Reach w) → closer_of (marks r) w.session ≤ changes r + pairs_of w.session + 2
