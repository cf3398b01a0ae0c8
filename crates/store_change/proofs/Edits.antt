-- The laws that the proofs of this crate use. Assumes nothing.
use Rattle.store.proofs.ViewLaws.{changed-here, run-at-here}
use Rattle.store.proofs.EditLaws.{edit-laid, edit-pair, edit-done}

pub ruleset entry = (changed-here)

pub ruleset edits = (run-at-here, edit-laid, edit-pair, edit-done)
