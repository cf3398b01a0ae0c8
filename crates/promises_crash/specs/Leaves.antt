-- What land, mount, sync and unmount leave when they give 0: both images sector by sector, and the session; and that five calls count 0. Stated.
-- Assumes nothing.
use Rattle.std.specs.Prelude.{◌≡◌, true, false, List, ◌≢◌, ℕ, ◌+◌, ◌*◌, ◌%◌, ◌≤◌, ◌<◌, length, get_or, set, Some, None}
use Rattle.words.specs.Lists.{splice}
use Rattle.words.specs.Bytes.{word_bytes}
use Rattle.sectors.specs.Sectors.{sec}
use Rattle.counts.specs.declared.Geo.{Geo}
use Rattle.counts.specs.Geometry.{geo_of, count_of, table_of}
use Rattle.counts.specs.Stamps.{max_tx}
use Rattle.card.specs.Make.{make}
use Rattle.session.specs.declared.Opened.{Opened}
use Rattle.session.specs.Session.{Session}
use Rattle.store.specs.Steps.{table_sector}
use Rattle.store.specs.Mount.{Ended, mount}
use Rattle.store.specs.Edit.{put_at, remove}
use Rattle.store.specs.Sync.{land, sync, unmount}

-- a sector 0 with count C: its first word is C, the rest of it stays
abbrev pub with_count : ℕ → List ℕ → List ℕ
with_count C x = splice x 0 (word_bytes C)

-- the table sector that holds word c, with word c set to t: the rest of it stays
abbrev pub with_word : ℕ → ℕ → List ℕ → List ℕ
with_word c t x = splice x (4 * (c % 128)) (word_bytes t)

-- ---- land: "copies one sector to the card"; no other buffer is lent to it to be written

pub record LandLeaves (s : Opened) (i : ℕ) (card work after : List ℕ) : Type 0 where
  pub size : length after ≡ length card
  pub inside : i < s.geo.s
  -- the sector is the working image's: a land that lands nothing is refused here
  pub landed : sec after i ≡ sec work i
  pub others : (j : ℕ) → j ≢ i → sec after j ≡ sec card j

-- ---- mount

pub record MountLeaves (card : List ℕ) (r : Ended) : Type 0 where
  pub size : length r.card ≡ length card
  -- "Mount writes C + 1 to sector 0 of the card": a mount that writes nothing is refused here
  pub head : sec r.card 0 ≡ with_count (count_of (sec card) + 1) (sec card 0)
  pub count : count_of (sec r.card) ≡ count_of (sec card) + 1
  pub others : (i : ℕ) → i ≢ 0 → sec r.card i ≡ sec card i
  -- "then copies the card to the working image"
  pub copied : r.work ≡ r.card
  -- "The session has c = the old C and t = table word c, plus 1."
  pub session : r.session
      ≡ Some (record {
        geo = geo_of (sec card);
        c = record { 0 = count_of (sec card) };
        t = record { 0 = get_or (table_of (geo_of (sec card)) (sec card)) (count_of (sec card)) 0 + 1 };
        worn = false;
      })

-- ---- sync

-- both images after a sync of `card` and `work`, if sector 0 of both is `head` then
pub record BothSynced (s : Opened) (card work head card' work' : List ℕ) : Type 0 where
  pub card_size : length card' ≡ length card
  pub work_size : length work' ≡ length work
  -- "copies every sector but the table to the card": a sync that lands nothing is refused here
  pub card_head : sec card' 0 ≡ head
  pub copied : (i : ℕ) → s.geo.t < i → sec card' i ≡ sec work i
  -- "then sets word c to t and writes the table sector that holds it": no other table sector of the card changes
  pub card_table : sec card' (table_sector s.c.0) ≡ with_word s.c.0 s.t.0 (sec work (table_sector s.c.0))
  pub card_others : (i : ℕ) → 1 ≤ i → i ≤ s.geo.t → i ≢ table_sector s.c.0 → sec card' i ≡ sec card i
  -- the working image, where word c is set: an unmount that leaves its count at c + 1 is refused by `work_head`
  pub work_head : sec work' 0 ≡ head
  pub work_table : sec work' (table_sector s.c.0) ≡ with_word s.c.0 s.t.0 (sec work (table_sector s.c.0))
  pub work_others : (i : ℕ) → i ≢ 0 → i ≢ table_sector s.c.0 → sec work' i ≡ sec work i
  -- the same of the table's words: word c is t, every other stays
  pub word : table_of s.geo (sec work') ≡ set (table_of s.geo (sec work)) s.c.0 s.t.0

pub record SyncLeaves (s : Opened) (card work : List ℕ) (r : Ended) : Type 0 where
  pub images : BothSynced s card work (sec work 0) r.card r.work
  -- "Then t grows by 1."
  pub grows : s.t.0 < max_tx → r.session ≡ Some (record { geo = s.geo; c = s.c; t = record { 0 = s.t.0 + 1 }; worn = false })
  -- "At t = 2,147,483,647 it lands too, t stays, and the session is worn"
  pub wears : s.t.0 ≡ max_tx → r.session ≡ Some (record { geo = s.geo; c = s.c; t = s.t; worn = true })

-- ---- unmount

pub record UnmountLeaves (s : Opened) (card work : List ℕ) (r : Ended) : Type 0 where
  -- "The session is closed"
  pub closed : r.session ≡ None
  -- "syncs unless worn, then writes C = c to sector 0 of both images"
  pub down : s.worn ≡ false → s.t.0 < max_tx → BothSynced s card work (with_count s.c.0 (sec work 0)) r.card r.work
  pub count_down : s.worn ≡ false → s.t.0 < max_tx → (count_of (sec r.card) ≡ s.c.0) × (count_of (sec r.work) ≡ s.c.0)
  -- "a session that .. becomes so in this sync, leaves c + 1 there"
  pub wears : s.worn ≡ false → s.t.0 ≡ max_tx → BothSynced s card work (sec work 0) r.card r.work
  pub count_up : s.worn ≡ false → s.t.0 ≡ max_tx → (count_of (sec r.card) ≡ s.c.0 + 1) × (count_of (sec r.work) ≡ s.c.0 + 1)
  -- "a session that is worn": nothing is written
  pub worn : s.worn ≡ true → (r.card ≡ card) × (r.work ≡ work) × (count_of (sec r.work) ≡ s.c.0 + 1)

-- ---- the statements: for each call that gives 0

abbrev pub LandChanges : Type 0
LandChanges = (s : Opened) (card work : List ℕ) (i : ℕ) → (land (Some s) card work i).answer.number ≡ 0 → LandLeaves s i card work (land (Some s) card work i).image

abbrev pub MountChanges : Type 0
MountChanges = (card work : List ℕ) → (mount card work).answer.number ≡ 0 → MountLeaves card (mount card work)

abbrev pub SyncChanges : Type 0
SyncChanges = (s : Opened) (card work : List ℕ) → (sync (Some s) card work).answer.number ≡ 0 → SyncLeaves s card work (sync (Some s) card work)

abbrev pub UnmountChanges : Type 0
UnmountChanges = (s : Opened) (card work : List ℕ) → (unmount (Some s) card work).answer.number ≡ 0 → UnmountLeaves s card work (unmount (Some s) card work)

-- "the other session calls, make and mount count 0", sync and unmount aside, whose count `Counts` (Fewer) states; with a refusal they count 0 too
pub record CountsNothing : Type 0 where
  pub of_make : (g : Geo) (card : List ℕ) → (make g card).answer.count ≡ 0
  pub of_mount : (card work : List ℕ) → (mount card work).answer.count ≡ 0
  pub of_put : (s : Session) (work n d : List ℕ) (goal : ℕ) → (put_at s work n d goal).answer.count ≡ 0
  pub of_remove : (s : Session) (work n : List ℕ) → (remove s work n).answer.count ≡ 0
  pub of_land : (s : Session) (card work : List ℕ) (i : ℕ) → (land s card work i).answer.count ≡ 0
