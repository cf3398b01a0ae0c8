-- The number of its tests says what each of them showed. Assumes nothing.
use mathlib.Core.Path.{refl}
use Rattle.std.proofs.lemmas.Result.{err_from_is_err_and}
use Rattle.card.proofs.AnswerLaws.{number-some}
use Rattle.store.proofs.CardLaws.{mount-stop, mount-can}
use Rattle.store_card.proofs.mount.Goals as goal

pub returns-in_err-mount_tests : goal.returns-in_err-mount_tests
returns-in_err-mount_tests c = let p = err_from_is_err_and c.from_residual.result c.from_residual.ensures.1 in rw (p.1, p.2) (mount-stop _ _ c.in_err-mount_tests.ensures (number-some _) (refl, refl))

pub mount_in-requires : goal.mount_in-requires
mount_in-requires c = mount-can _ _ c.in_ok-mount_tests.ensures refl
