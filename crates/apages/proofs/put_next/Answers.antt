-- All whole bytes, or one bit. Assumes nothing.
use borrow.Author.Rules.{rules}
use Rattle.apages.proofs.ByteLaws.{run-one}
use Rattle.apages.proofs.put_next.Goals as goal

pub returns-else-n-eq0 : goal.returns-else-n-eq0
returns-else-n-eq0 c = (run-one _ _ _ c.put_bit.ensures, search rules, search rules)
