-- Refused by what every reading call tests. Assumes nothing.
use Rattle.std.proofs.lemmas.Result.{err_from_is_err_and}
use Rattle.card.proofs.ReadLaws.{get-refused}
use Rattle.card_read.proofs.read_get.Goals as goal

pub returns-in_err-judged : goal.returns-in_err-judged
returns-in_err-judged c = let p = err_from_is_err_and c.from_residual.result c.from_residual.ensures.1 in rw (p.1, p.2) (get-refused _ _ c.in_err-judged.ensures.refused _ _)
