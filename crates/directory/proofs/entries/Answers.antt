-- The chunks of the directory's sectors are the entries. Assumes nothing.
use native.Mathlib.Omega.{arith}
use Rattle.directory.proofs.EntryRuns.{entries-yield}
use Rattle.directory.proofs.entries.Goals as goal

pub returns-clause-gives : goal.returns-clause-gives
returns-clause-gives c = entries-yield c.args.card.geo c.args.card.bytes.now _ c.offset-first.result (omega arith) (omega arith) c.chunks_exact.ensures.size c.chunks_exact.ensures.rest
