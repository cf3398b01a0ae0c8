-- A change with no content. Assumes nothing.
use Rattle.store.proofs.RoomLaws.{can-remove}
use Rattle.store_change.proofs.remove_in.Goals as goal

pub edit-requires : goal.edit-requires
edit-requires c = let p = c.requires in can-remove _ _ _ _ p.0 p.1.0 p.1.1
