-- A session fits its working image after every call that keeps it open, whatever the history: mount opens one that fits, and put, remove, land and sync keep the
-- fit of every fitting session. Assumes nothing.
use Rattle.std.specs.Prelude.{List, ℕ, Some, None}
use Rattle.session.specs.declared.Opened.{Opened}
use Rattle.session.specs.Session.{Session}
use Rattle.session.specs.FitMeans.{Fits}
use Rattle.store.specs.Mount.{mount}
use Rattle.store.specs.Edit.{put_at, remove}
use Rattle.store.specs.Sync.{sync}

-- an open session fits; a closed one has nothing to fit
abbrev pub FitsIn : Session → List ℕ → Type 0
FitsIn None work = Unit
FitsIn (Some s) work = Fits s work

-- land and unmount are not listed: land is lent neither the session nor the working image to change, and unmount closes the session
pub record KeepsFit : Type 0 where
  pub of_mount : (card work : List ℕ) → FitsIn (mount card work).session (mount card work).work
  pub of_put : (s : Opened) (work n d : List ℕ) (goal : ℕ) → Fits s work → Fits s (put_at (Some s) work n d goal).image
  pub of_remove : (s : Opened) (work n : List ℕ) → Fits s work → Fits s (remove (Some s) work n).image
  pub of_sync : (s : Opened) (card work : List ℕ) → Fits s work → FitsIn (sync (Some s) card work).session (sync (Some s) card work).work
