-- Each byte goes over to what was seen. Assumes nothing.
use native.Mathlib.Omega.{arith}
use Rattle.std.proofs.lemmas.Grind.{common_steps}
use Rattle.entries.specs.Entries.{good_byte}
use Rattle.words.proofs.EveryLaws.{seen-go, seen_end}
use Rattle.entries_names.proofs.good_bytes.Goals as goal

pub loop-b-preserved : goal.loop-b-preserved
loop-b-preserved c =
    seen-go good_byte c.args.s.now 0 c.loop-b.b-index c.loop-b.ok _ c.loop-b-test.true (grind (arith, common_steps)) c.loop-b.invariant

pub returns : goal.returns
returns c = seen_end good_byte c.args.s.now 0 c.loop-b.b-index c.loop-b.ok (omega arith) c.loop-b.invariant
