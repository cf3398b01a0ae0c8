-- The tester's worries, each as one statement with its own name. A history is one from any sound card (Field), so from a card just made too. A reader needs
-- document 01, History and Field, `Sound` (card/Means) and Whole (what reading answers). Assumes nothing.
use Rattle.std.specs.Prelude.{◌≡◌, Bool, true, false, List, ◌↔◌, ℕ, ◌+◌, ◌≤◌, ◌<◌, length, get_or, Some, None}
use Rattle.sectors.specs.Sectors.{sec}
use Rattle.counts.specs.declared.Geo.{Geo}
use Rattle.counts.specs.declared.Stamp.{Stamp}
use Rattle.counts.specs.Geometry.{g_n, geo_of, count_of, table_of}
use Rattle.counts.specs.Stamps.{max_tx}
use Rattle.card.specs.Plan.{refused}
use Rattle.card.specs.Means.{EachStamp, Alive, Sound}
use Rattle.session.specs.declared.Opened.{Opened}
use Rattle.session.specs.Session.{Session}
use Rattle.session.specs.Views.{present_table, cut_table}
use Rattle.store.specs.Mount.{mount}
use Rattle.store.specs.Edit.{put_at, remove}
use Rattle.store.specs.Sync.{land, sync, unmount}
use Rattle.promises_answers.specs.PlainList.{shown_by, shown_in}
use Rattle.promises_crash.specs.History.{Left, World, Call, make_c, mount_c, sync_c, unmount_c, put_c, remove_c, land_c, get_c, list_c, free_c, after, pending_in, Reads}
use Rattle.promises_crash.specs.Whole.{ReadsAs, LooksAs}
use Rattle.promises_crash.specs.Field.{SoundCard, Since}

-- ---- the tester: at 2,147,483,647, what does the next sync do?

-- "At t = 2,147,483,647 it lands too, t stays, and the session is worn"
pub record LandsAndWears (w : World) (s : Opened) : Type 0 where
  pub number : (sync w.session w.card w.work).answer.number ≡ 0
  -- the card reads as what the session showed, and so does whatever a cut leaves
  pub lands : Reads (after sync_c w).card (shown_in w.session w.work)
  pub stays : (card : List ℕ) → Left (after sync_c w).pending (length (after sync_c w).card) card → Reads card (shown_in w.session w.work)
  pub wears : (after sync_c w).session ≡ Some (record { geo = s.geo; c = s.c; t = s.t; worn = true })

abbrev pub SyncAtTop : Type 0
SyncAtTop = (w : World) → Since w → (s : Opened) → w.session ≡ Some s → s.worn ≡ false → s.t.0 ≡ max_tx → LandsAndWears w s

-- make, mount and unmount end a session; no other call does
unfoldable pub ends : Call → Bool
ends (make_c g) = true
ends mount_c = true
ends sync_c = false
ends unmount_c = true
ends (put_c n d goal) = false
ends (remove_c n) = false
ends (land_c i) = false
ends (get_c n out) = false
ends (list_c lines) = false
ends free_c = false

-- a worn session: "no further change"
pub record OnlyLooks (w : World) (s : Opened) : Type 0 where
  -- 9, "change or sync in a worn session", whatever is asked
  pub puts : (n d : List ℕ) (goal : ℕ) → (put_at w.session w.work n d goal).answer.number ≡ 9
  pub removes : (n : List ℕ) → (remove w.session w.work n).answer.number ≡ 9
  pub syncs : (sync w.session w.card w.work).answer.number ≡ 9
  -- it stays so until a call that ends it
  pub stays : (c : Call) → ends c ≡ false → (after c w).session ≡ Some s
  -- get, list and free go on, and so does land
  pub looks : LooksAs s w.work (shown_in w.session w.work)
  pub lands : (i : ℕ) → i < s.geo.s → (land w.session w.card w.work i).answer.number ≡ 0
  -- "Unmount .. a session that is worn .. leaves c + 1 there"
  pub unmounts : (unmount w.session w.card w.work).answer.number ≡ 0
  pub leaves : count_of (sec (after unmount_c w).card) ≡ s.c.0 + 1

abbrev pub WornOnlyLooks : Type 0
WornOnlyLooks = (w : World) → Since w → (s : Opened) → w.session ≡ Some s → s.worn ≡ true → OnlyLooks w s

-- ---- "2,147,483,648 is below 1": no count ever gets there

-- of an image: the words of its table, and the transaction counts of its stamps
pub record NoneAbove (g : Geo) (img : List ℕ) : Type 0 where
  pub words : (i : ℕ) → i < g_n g → get_or (table_of g (sec img)) i 0 ≤ max_tx
  pub stamps : EachStamp g img (λ x. x.txc.0 ≤ max_tx)

-- of an open session: its own t, and its working image
abbrev pub NoneAboveIn : Session → List ℕ → Type 0
NoneAboveIn None work = Unit
NoneAboveIn (Some s) work = (s.t.0 ≤ max_tx) × NoneAbove s.geo work

-- of the card as the calls have left it, of what any cut leaves, between calls and inside one, and of the session
pub record CountsHold (w : World) : Type 0 where
  pub card : NoneAbove (geo_of (sec w.card)) w.card
  pub cuts : (card : List ℕ) → Left w.pending (length w.card) card → NoneAbove (geo_of (sec card)) card
  pub cuts_in : (c : Call) (n : ℕ) (card : List ℕ) → Left (pending_in c n w) (length w.card) card → NoneAbove (geo_of (sec card)) card
  pub session : NoneAboveIn w.session w.work

abbrev pub NoCountAbove : Type 0
NoCountAbove = (w : World) → Since w → CountsHold w

-- ---- the tester: 65,536 crashes, and the one after the last?

-- "mount of a sound card with C = N" gives 3, changes nothing, and reading goes on
pub record StillReads (card work : List ℕ) : Type 0 where
  pub three : mount card work ≡ record { answer = refused 3; session = None; card = card; work = work }
  pub reads : ReadsAs card (shown_by card)

abbrev pub CountsUsedUp : Type 0
CountsUsedUp = (card work : List ℕ) → SoundCard card → length work ≡ length card → count_of (sec card) ≡ g_n (geo_of (sec card)) → StillReads card work

-- ---- the tester: stamps from a session yet to come

-- a stamp is alive in both views of a session exactly when it was alive by the table
abbrev pub LivesOn : List ℕ → Session → List ℕ → Stamp → Type 0
LivesOn tab None work x = ⊥
LivesOn tab (Some s) work x = (Alive (present_table s (sec work)) x ↔ Alive tab x) × (Alive (cut_table s (sec work)) x ↔ Alive tab x)

pub record NoneWakes : Type 0 where
  -- "a dead stamp has cc below C": on a sound card no stamp at or past C is dead
  pub none_dead : (card : List ℕ) → Sound card
      → EachStamp (geo_of (sec card)) card (λ x. count_of (sec card) ≤ x.cc.0 → Alive (table_of (geo_of (sec card)) (sec card)) x)
  -- so mount brings none to life, nor does a sync: in both views of the session what was alive is alive, and what was dead is dead
  pub at_mount : (card work : List ℕ) → (mount card work).answer.number ≡ 0
      → EachStamp (geo_of (sec card)) card (LivesOn (table_of (geo_of (sec card)) (sec card)) (mount card work).session (mount card work).work)
  pub at_sync : (s : Opened) (card work : List ℕ) → (sync (Some s) card work).answer.number ≡ 0
      → EachStamp s.geo work (LivesOn (present_table s (sec work)) (sync (Some s) card work).session (sync (Some s) card work).work)
  -- and the files shown stay the same
  pub mount_shows : (card work : List ℕ) → (mount card work).answer.number ≡ 0 → shown_in (mount card work).session (mount card work).work ≡ shown_by card
  pub sync_shows : (s : Session) (card work : List ℕ) → (sync s card work).answer.number ≡ 0 → shown_in (sync s card work).session (sync s card work).work ≡ shown_in s work
