-- `Answer::from` gives what is counted, or the refusal's number: the definitions, unfolded. Assumes nothing.
use borrow.Author.Rules.{rules}
use Rattle.card.specs.Plan.{refused, done}
use Rattle.card.proofs.AnswerFromResultU32Refusal.from.Goals as goal

pub returns-in-Ok : goal.returns-in-Ok
unfolding done
returns-in-Ok c = search rules

pub returns-in-Err : goal.returns-in-Err
unfolding refused
returns-in-Err c = search rules
