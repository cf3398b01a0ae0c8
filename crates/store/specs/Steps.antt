-- The writes of mount, sync and unmount in their order, with the barriers between them. Assumes nothing.
use Rattle.std.specs.Prelude.{Bool, true, false, List, [], ◌∷◌, ℕ, ◌+◌, ◌-◌, ◌*◌, ◌/◌, length, take, eqb}
use Rattle.words.specs.Lists.{splice}
use Rattle.words.specs.Bytes.{word_bytes}
use Rattle.sectors.specs.Sectors.{sec, Step, write, settle, copy_steps, diff_steps, writes_in, lean}
use Rattle.counts.specs.Geometry.{count_of}
use Rattle.counts.specs.Stamps.{max_tx}
use Rattle.session.specs.declared.Opened.{Opened}

-- an image with crash count C in sector 0
unfoldable pub set_count : ℕ → List ℕ → List ℕ
set_count C img = splice img 0 (word_bytes C)

-- an image with table word c set to t, and the table sector that holds it
unfoldable pub set_word : ℕ → ℕ → List ℕ → List ℕ
set_word c t img = splice img (512 + 4 * c) (word_bytes t)

unfoldable pub table_sector : ℕ → ℕ
table_sector c = 1 + c / 128

-- "Mount writes C + 1 to sector 0 of the card"; "The count C + 1 of mount has landed before anything else of the session."
unfoldable pub mount_steps : List ℕ → List Step
mount_steps card = write 0 (sec (set_count (count_of (sec card) + 1) card) 0) ∷ settle ∷ []

-- how many sectors lie past the table
abbrev pub past_table : Opened → ℕ
past_table s = s.geo.s - s.geo.t - 1

-- ".. then sets word c to t and writes the table sector that holds it": between two barriers, and then r
-- "Every other sector holds its newest value before sync writes the table sector, and the table has landed before unmount writes sector 0."
abbrev pub table_steps : Opened → List ℕ → List Step → List Step
table_steps s work r = settle ∷ write (table_sector s.c.0) (sec (set_word s.c.0 s.t.0 work) (table_sector s.c.0)) ∷ settle ∷ r

-- "Sync and unmount copy only the sectors outside the table that differ, then the table sector": they differ from the card as lent
unfoldable pub sync_steps : Opened → List ℕ → List ℕ → List Step → List Step
sync_steps s card work r = diff_steps card work 0 1 (diff_steps card work (s.geo.t + 1) (past_table s) (table_steps s work r))

-- document 01, "Sync copies every sector but the table to the card in rising order": the places that sync goes through, whatever the card holds
unfoldable pub all_steps : Opened → List ℕ → List Step → List Step
all_steps s work r = copy_steps work 0 1 (copy_steps work (s.geo.t + 1) (past_table s) (table_steps s work r))

-- t cannot grow: this sync wears the session
unfoldable pub at_top : Opened → Bool
at_top s = eqb s.t.0 max_tx

-- "then writes C = c to sector 0 ..; a session that is worn, or becomes so in this sync, leaves c + 1 there": the writes after the sync
unfoldable pub down_steps : Bool → Opened → List ℕ → List Step
down_steps true s work = []
down_steps false s work = write 0 (sec (set_count s.c.0 work) 0) ∷ []

-- the writes of an unmount, by whether the session is worn
unfoldable pub unmount_steps_by : Bool → Opened → List ℕ → List ℕ → List Step
unmount_steps_by true s card work = []
unmount_steps_by false s card work = sync_steps s card work (down_steps (at_top s) s (set_word s.c.0 s.t.0 work))

-- "Unmount syncs unless worn"
unfoldable pub unmount_steps : Opened → List ℕ → List ℕ → List Step
unmount_steps s card work = unmount_steps_by s.worn s card work

-- document 01's: the places that unmount goes through
unfoldable pub all_down_by : Bool → Opened → List ℕ → List Step
all_down_by true s work = []
all_down_by false s work = all_steps s work (down_steps (at_top s) s (set_word s.c.0 s.t.0 work))

unfoldable pub all_down : Opened → List ℕ → List Step
all_down s work = all_down_by s.worn s work

-- ---- how far sync and unmount are, and how many sectors they "report .. they wrote"

-- how many of sync's steps stand at its first k places
unfoldable pub synced_at : Opened → List ℕ → List ℕ → ℕ → ℕ
synced_at s card work k = length (lean (past_table s + 1) card (take k (all_steps s work [])))

-- how many of unmount's steps stand at its first k places
unfoldable pub down_at : Opened → List ℕ → List ℕ → ℕ → ℕ
down_at s card work k = length (lean (past_table s + 1) card (take k (all_down s work)))

-- how many sectors sync writes at its first k places
unfoldable pub written_at : Opened → List ℕ → List ℕ → ℕ → ℕ
written_at s card work k = writes_in (take (synced_at s card work k) (sync_steps s card work []))

-- what an unmount counts of them: "A worn unmount reports 0; the write of sector 0 is not counted."
unfoldable pub counted_at : Bool → Opened → List ℕ → List ℕ → ℕ → ℕ
counted_at true s card work k = 0
counted_at false s card work k = written_at s card work k

unfoldable pub counted_by : Bool → Opened → List ℕ → List ℕ → ℕ
counted_by true s card work = 0
counted_by false s card work = writes_in (sync_steps s card work [])

unfoldable pub unmount_count : Opened → List ℕ → List ℕ → ℕ
unmount_count s card work = counted_by s.worn s card work

-- ---- the working image after sync and unmount

unfoldable pub sync_work : Opened → List ℕ → List ℕ
sync_work s work = set_word s.c.0 s.t.0 work

-- "of both images"
unfoldable pub down_work : Bool → Opened → List ℕ → List ℕ
down_work true s work = work
down_work false s work = set_count s.c.0 work

unfoldable pub unmount_work_by : Bool → Opened → List ℕ → List ℕ
unmount_work_by true s work = work
unmount_work_by false s work = down_work (at_top s) s (sync_work s work)

unfoldable pub unmount_work : Opened → List ℕ → List ℕ
unmount_work s work = unmount_work_by s.worn s work
