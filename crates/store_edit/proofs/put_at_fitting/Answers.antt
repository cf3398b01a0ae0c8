-- What the tests showed, and the fit that it requires, is what the change asks. Assumes nothing.
use mathlib.Core.Path.{sym, ap, ◌∙◌}
use Rattle.store.proofs.Fitting.{open-fits}
use Rattle.store.proofs.RoomLaws.{can-put, run-so}
use Rattle.store_find.specs.Inner.{found_of}
use Rattle.store_edit.proofs.put_at_fitting.Goals as goal

pub put_in-requires : goal.put_in-requires
put_in-requires c = can-put _ _ _ _ _ _ _ (open-fits _ c.in_ok-s.ensures.ok_part c.requires) (sym c.if-not-good_name.ensures) (sym c.put_place.ensures ∙ c.in_ok-j.ensures.ok_part) (run-so _ _ _ c.sectors_of.ensures c.run_in.ensures (ap found_of c.in_ok-a.ensures.ok_part))
