-- What it reads of sector 0 is the sector's. Assumes nothing.
use Rattle.std.proofs.Common.{arith}
use Rattle.std.proofs.lemmas.Grind.{common_steps}
use Rattle.counts.specs.Geometry.{count_of}
use Rattle.session.specs.Fits.{head_ok}
use Rattle.session.proofs.FitTests.{head-word, head-rest}
use Rattle.session_agree.proofs.head_ok.Goals as goal

pub returns-then-eq : goal.returns-then-eq
unfolding head_ok count_of
returns-then-eq c =
    let w = head-word c.args.work.now c.requires in
    let r = head-rest c.args.work.now in
    grind (arith, common_steps)

pub returns-else-eq : goal.returns-else-eq
unfolding head_ok count_of
returns-else-eq c =
    let w = head-word c.args.work.now c.requires in
    grind (arith, common_steps)
