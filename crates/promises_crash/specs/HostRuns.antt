-- What a module runs, stated: the host functions over two images and the 24 bytes of a session, and demand 3 of them. A reader needs History, host_crossing/Crossing
-- for the bytes and host_crossing/FirstSteps for the functions that stop inside a call. Assumes nothing.
use Rattle.std.specs.Prelude.{◌≡◌, true, List, ◌⊎◌, ℕ, length, take, None}
use Rattle.sectors.specs.Sectors.{apply_steps}
use Rattle.counts.specs.declared.Geo.{Geo}
use Rattle.card.specs.Means.{InLimits}
use Rattle.card.specs.Make.{fresh_card, make}
use Rattle.store.specs.Mount.{mount}
use Rattle.store.specs.Edit.{put_at, remove}
use Rattle.store.specs.Sync.{land, sync, unmount}
use Rattle.host_crossing.specs.Crossing.{decoded, encoded, kept}
use Rattle.host_crossing.specs.FirstSteps.{mount_first, sync_first, unmount_first}
use Rattle.promises_answers.specs.PlainList.{shown_in}
use Rattle.promises_crash.specs.History.{Left, World, Call, make_c, mount_c, sync_c, unmount_c, put_c, remove_c, land_c, get_c, list_c, free_c, after_cut, by_number, before, steps_of, after, pending_in, Reach, Reads, is_sync}

-- what a module holds: the card, the working image, and the bytes of its session
pub record Held : Type 0 where
  pub card : List ℕ
  pub work : List ℕ
  pub bytes : List ℕ

-- what the host function of a call leaves of them, by its contract. store_make is not lent the session: "A make that gives 0 ends the session", so whoever
-- called it takes the closed one from there on. The functions that read a card change none of the three
unfoldable pub left : Call → Held → Held
left (make_c g) h = let r = make g h.card in record { card = r.image; work = h.work; bytes = by_number r.answer.number (encoded None) h.bytes }
left mount_c h = let r = mount h.card h.work in record { card = r.card; work = r.work; bytes = encoded r.session }
left sync_c h = let r = sync (decoded h.bytes) h.card h.work in record { card = r.card; work = r.work; bytes = kept r h.bytes }
left unmount_c h = let r = unmount (decoded h.bytes) h.card h.work in record { card = r.card; work = r.work; bytes = kept r h.bytes }
left (put_c n d goal) h = record { card = h.card; work = (put_at (decoded h.bytes) h.work n d goal).image; bytes = h.bytes }
left (remove_c n) h = record { card = h.card; work = (remove (decoded h.bytes) h.work n).image; bytes = h.bytes }
left (land_c i) h = record { card = (land (decoded h.bytes) h.card h.work i).image; work = h.work; bytes = h.bytes }
left (get_c n out) h = h
left (list_c lines) h = h
left free_c h = h

-- a module's history, and beside it the world in which the calls do the same: what each sector may hold, and the files of the latest moment, are that world's.
-- After a cut the module has what is left of the card, any working image, and any bytes of the closed session
pub data Runs : Held → World → Type 0 where
  made : (g : Geo) (work b : List ℕ) → InLimits g → decoded b ≡ None → Runs (record { card = fresh_card g; work = work; bytes = b }) (after_cut (fresh_card g) work)
  ran : {h : Held} {w : World} → Runs h w → (c : Call) → Runs (left c h) (after c w)
  lost : {h : Held} {w : World} → Runs h w → (card work b : List ℕ) → Left w.pending (length h.card) card → decoded b ≡ None
      → Runs (record { card = card; work = work; bytes = b }) (after_cut card work)
  lost_in : {h : Held} {w : World} → Runs h w → (c : Call) (n : ℕ) (card work b : List ℕ) → Left (pending_in c n w) (length h.card) card → decoded b ≡ None
      → Runs (record { card = card; work = work; bytes = b }) (after_cut card work)

-- a history of host functions is a history of calls: the same images, and the session that the bytes hold. So each function answers as its call does there
pub record AsCalls (h : Held) (w : World) : Type 0 where
  pub reached : Reach w
  pub card : w.card ≡ h.card
  pub work : w.work ≡ h.work
  pub session : w.session ≡ decoded h.bytes

-- demand 3 of what a module runs, in its own images and bytes
pub record Kept (h : Held) (w : World) : Type 0 where
  pub at_rest : (card : List ℕ) → Left w.pending (length h.card) card → Reads card w.last
  pub inside : (c : Call) (n : ℕ) (card : List ℕ) → Left (pending_in c n w) (length h.card) card
      → Reads card w.last ⊎ ((is_sync c ≡ true) × Reads card (shown_in (decoded h.bytes) h.work))

-- what the functions that stop inside a call leave on the card at place k: what the call's first n steps leave, for some n, and so what a cut there may leave;
-- and every n has such a place
pub record Stops (h : Held) (w : World) (c : Call) (card : ℕ → List ℕ) : Type 0 where
  pub some : (k : ℕ) → (n : ℕ) × (card k ≡ apply_steps (take n (steps_of c (before c w))) h.card) × Left (pending_in c n w) (length h.card) (card k)
  pub each : (n : ℕ) → (k : ℕ) × (card k ≡ apply_steps (take n (steps_of c (before c w))) h.card)

pub record HostPromise (h : Held) (w : World) : Type 0 where
  pub calls : AsCalls h w
  pub demand : Kept h w
  pub of_mount : Stops h w mount_c (λ k. (mount_first h.card h.work k).image)
  pub of_sync : Stops h w sync_c (λ k. (sync_first (decoded h.bytes) h.card h.work k).image)
  pub of_unmount : Stops h w unmount_c (λ k. (unmount_first (decoded h.bytes) h.card h.work k).image)

abbrev pub HostHistories : Type 0
HostHistories = (h : Held) (w : World) → Runs h w → HostPromise h w
