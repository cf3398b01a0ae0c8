-- Demand 3, stated: worlds, calls, cuts, histories, and what every cut leaves. A reader needs document 01, this file, and store/Steps for the steps that mount,
-- sync and unmount take, with their barriers (Barriers says where these stand). Assumes nothing.
use Rattle.std.specs.Prelude.{◌≡◌, Bool, true, false, cond, ◌⊎◌, ℕ, zero, suc, ◌*◌, ◌≤◌, ◌<◌, length, take, eqb, Some, None}
use mathlib.Core.List.{List, [], ◌∷◌, Memᴰ}
use Rattle.sectors.specs.Sectors.{sec, Step, write, settle}
use Rattle.counts.specs.declared.Geo.{Geo}
use Rattle.counts.specs.Geometry.{g_f, geo_of}
use Rattle.apages.specs.Bits.{bit_at}
use Rattle.card.specs.declared.Line.{Line}
use Rattle.card.specs.Plan.{Changed}
use Rattle.card.specs.Files.{cover}
use Rattle.card.specs.Means.{InLimits, Sound}
use Rattle.card.specs.Make.{fresh_card, make}
use Rattle.card.specs.Reading.{files_shown, page_shown}
use Rattle.session.specs.Session.{Session}
use Rattle.store.specs.Steps.{mount_steps, sync_steps, unmount_steps}
use Rattle.store.specs.Mount.{Ended, mount}
use Rattle.store.specs.Edit.{put_at, remove}
use Rattle.store.specs.Sync.{land, sync, unmount}
use Rattle.promises_answers.specs.PlainList.{Item, shown_by, shown_in}

-- ---- what each sector of the card may hold at a cut

-- for each sector the values written since the latest moment and the one it held then, newest first
abbrev pub Pending : Type 0
Pending = ℕ → List (List ℕ)

-- one more value for sector i
unfoldable pub written : ℕ → List ℕ → Pending → Pending
written i s p j = cond (eqb j i) (s ∷ p j) (p j)

-- everything written so far has landed: each sector holds its newest value
unfoldable pub newest : List (List ℕ) → List (List ℕ)
newest [] = []
newest (s ∷ ss) = s ∷ []

-- "A value counts as written .. when a step of mount, sync or unmount writes it."
unfoldable pub play : List Step → Pending → Pending
play [] p = p
play (write i s ∷ r) p = play r (written i s p)
play (settle ∷ r) p = play r (λ j. newest (p j))

-- "A value counts as written once the call that made it has ended": every sector of the working image
unfoldable pub all_written : List ℕ → Pending → Pending
all_written work p j = sec work j ∷ p j

-- nothing is pending: each sector holds what the card has
unfoldable pub settled : List ℕ → Pending
settled card j = sec card j ∷ []

-- a card that a cut may leave: as long as it was, each sector with any one of its values written since the latest moment, or the one it held then
pub record Left (p : Pending) (size : ℕ) (card : List ℕ) : Type 0 where
  pub sized : length card ≡ size
  pub held : (j : ℕ) → 512 * j < size → Memᴰ (sec card j) (p j)

-- ---- worlds and calls

pub record World : Type 0 where
  pub card : List ℕ
  pub work : List ℕ
  pub session : Session
  pub pending : Pending
  pub last : List Item  -- the files of the latest moment

pub data Call : Type 0 where
  make_c : Geo → Call
  mount_c sync_c unmount_c : Call
  put_c : List ℕ → List ℕ → ℕ → Call  -- a name, a content and a goal; put without a goal is the one with goal 0
  remove_c : List ℕ → Call
  land_c : ℕ → Call
  get_c : List ℕ → List ℕ → Call
  list_c : List Line → Call
  free_c : Call

-- "A cut ends the session and loses the working image"; a cut is a moment, and so is a making
unfoldable pub after_cut : List ℕ → List ℕ → World
after_cut card work = record { card = card; work = work; session = None; pending = settled card; last = shown_by card }

-- by the number: 0, or a refusal
unfoldable pub by_number : {A : Type 0} → ℕ → A → A → A
by_number zero a b = a
by_number (suc k) a b = b

-- "a mount with one still open, refused or not, counts as a cut at which the card stays as it is"
unfoldable pub end_open : Session → World → World
end_open None w = w
end_open (Some s) w = after_cut w.card w.work

unfoldable pub before : Call → World → World
before (make_c g) w = w
before mount_c w = end_open w.session w
before sync_c w = w
before unmount_c w = w
before (put_c n d goal) w = w
before (remove_c n) w = w
before (land_c i) w = w
before (get_c n out) w = w
before (list_c lines) w = w
before free_c w = w

-- the steps of an open session's sync and unmount
unfoldable pub syncs_by : Session → List ℕ → List ℕ → List Step
syncs_by None card work = []
syncs_by (Some s) card work = sync_steps s card work []

unfoldable pub unmounts_by : Session → List ℕ → List ℕ → List Step
unmounts_by None card work = []
unmounts_by (Some s) card work = unmount_steps s card work

-- the steps that a call takes on the card: none where it is refused, and only mount, sync and unmount take any
unfoldable pub steps_of : Call → World → List Step
steps_of (make_c g) w = []
steps_of mount_c w = by_number (mount w.card w.work).answer.number (mount_steps w.card) []
steps_of sync_c w = by_number (sync w.session w.card w.work).answer.number (syncs_by w.session w.card w.work) []
steps_of unmount_c w = by_number (unmount w.session w.card w.work).answer.number (unmounts_by w.session w.card w.work) []
steps_of (put_c n d goal) w = []
steps_of (remove_c n) w = []
steps_of (land_c i) w = []
steps_of (get_c n out) w = []
steps_of (list_c lines) w = []
steps_of free_c w = []

-- the world after a call that changes only the working image: its sectors are written
unfoldable pub edited : World → Changed → World
edited w r =
    by_number r.answer.number
    (record { card = w.card; work = r.image; session = w.session; pending = all_written r.image w.pending; last = w.last })
    w

-- the world after mount, sync or unmount: their steps are played, and what `shown` holds is the files of the new moment
unfoldable pub stepped : World → Ended → List Step → List Item → World
stepped w r steps shown =
    by_number r.answer.number
    (record { card = r.card; work = r.work; session = r.session; pending = play steps w.pending; last = shown })
    w

-- the world after a call; a refusal changes nothing
unfoldable pub after : Call → World → World
after (make_c g) w = by_number (make g w.card).answer.number (after_cut (make g w.card).image w.work) w
after mount_c w = let v = before mount_c w in stepped v (mount v.card v.work) (steps_of mount_c v) (shown_by v.card)
after sync_c w = stepped w (sync w.session w.card w.work) (steps_of sync_c w) (shown_in w.session w.work)
after unmount_c w = stepped w (unmount w.session w.card w.work) (steps_of unmount_c w) (shown_in w.session w.work)
after (put_c n d goal) w = edited w (put_at w.session w.work n d goal)
after (remove_c n) w = edited w (remove w.session w.work n)
after (land_c i) w =
    let r = land w.session w.card w.work i in
    by_number r.answer.number (record { card = r.image; work = w.work; session = w.session; pending = w.pending; last = w.last }) w
after (get_c n out) w = w
after (list_c lines) w = w
after free_c w = w

-- ---- histories: any calls and cuts, from a freshly made card

-- what may stand on the card at a cut inside a call, after its first n steps
unfoldable pub pending_in : Call → ℕ → World → Pending
pending_in c n w = play (take n (steps_of c (before c w))) (before c w).pending

-- every session starts with our mount, only the newest is used, and nobody else touches the images: a call takes the world's own card, working image and session
pub data Reach : World → Type 0 where
  fresh : (g : Geo) (work : List ℕ) → InLimits g → Reach (after_cut (fresh_card g) work)
  call : {w : World} → Reach w → (c : Call) → Reach (after c w)
  cut : {w : World} → Reach w → (card work : List ℕ) → Left w.pending (length w.card) card → Reach (after_cut card work)
  cut_in : {w : World} → Reach w → (c : Call) (n : ℕ) (card work : List ℕ) → Left (pending_in c n w) (length w.card) card → Reach (after_cut card work)

-- ---- the demand

-- a card that reads as exactly these files, and on which each data sector is in exactly one shown file, or free
pub record Reads (card : List ℕ) (files : List Item) : Type 0 where
  pub limits : InLimits (geo_of (sec card))
  pub sized : length card ≡ 512 * (geo_of (sec card)).s
  pub is_sound : Sound card
  pub shows : shown_by card ≡ files
  pub bits : (n : ℕ) → g_f (geo_of (sec card)) ≤ n → n < (geo_of (sec card)).s → bit_at (page_shown card) n ≡ cover (files_shown card) n
  pub once : (n : ℕ) → cover (files_shown card) n ≤ 1

unfoldable pub is_sync : Call → Bool
is_sync (make_c g) = false
is_sync mount_c = false
is_sync sync_c = true
is_sync unmount_c = true
is_sync (put_c n d goal) = false
is_sync (remove_c n) = false
is_sync (land_c i) = false
is_sync (get_c n out) = false
is_sync (list_c lines) = false
is_sync free_c = false

-- demand 3: reading shows exactly the files of the latest moment, or, if the cut fell inside a sync or unmount, possibly those of its start
abbrev pub Demand3 : Type 0
Demand3 = (w : World) → Reach w →
    ((card : List ℕ) → Left w.pending (length w.card) card → Reads card w.last)
    × ((c : Call) (n : ℕ) (card : List ℕ) → Left (pending_in c n w) (length w.card) card
    → Reads card w.last ⊎ ((is_sync c ≡ true) × Reads card (shown_in w.session w.work)))
