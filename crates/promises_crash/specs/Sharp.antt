-- A cut inside unmount, sharper than demand 3: once its sync has finished, the card reads as what the session showed, and as nothing else. Assumes nothing.
use Rattle.std.specs.Prelude.{◌≡◌, false, List, [], ℕ, ◌≤◌, length, Some}
use Rattle.session.specs.declared.Opened.{Opened}
use Rattle.store.specs.Steps.{sync_steps}
use Rattle.store.specs.Sync.{unmount}
use Rattle.promises_answers.specs.PlainList.{shown_in}
use Rattle.promises_crash.specs.History.{Left, World, pending_in, unmount_c, Reach, Reads}

-- after the whole sync of an unmount: sector 0 may or may not have its count c, and either way the card reads as what the session showed
abbrev pub UnmountSharp : Type 0
UnmountSharp = (w : World) → Reach w → (s : Opened) → w.session ≡ Some s → s.worn ≡ false → (unmount w.session w.card w.work).answer.number ≡ 0
    → (n : ℕ) → length (sync_steps s w.card w.work []) ≤ n → (card : List ℕ) → Left (pending_in unmount_c n w) (length w.card) card
    → Reads card (shown_in w.session w.work)
