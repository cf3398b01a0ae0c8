-- The number of its tests says what each of them showed. Assumes nothing.
use mathlib.Core.Path.{refl}
use Rattle.std.proofs.lemmas.Result.{err_from_is_err_and}
use Rattle.card.proofs.AnswerLaws.{number-some}
use Rattle.store.proofs.CardLaws.{mount-can}
use Rattle.host_crossing.proofs.FirstLaws.{mount-first-stop}
use Rattle.host.proofs.mount_first.Goals as goal

pub returns-in_err-mount_tests : goal.returns-in_err-mount_tests
returns-in_err-mount_tests c = let p = err_from_is_err_and c.from_residual.result c.from_residual.ensures.1 in rw (p.1, p.2) (mount-first-stop _ _ _ c.in_err-mount_tests.ensures (number-some _) refl)

pub mount_steps-requires : goal.mount_steps-requires
mount_steps-requires c = (mount-can _ _ c.in_ok-mount_tests.ensures refl).0
