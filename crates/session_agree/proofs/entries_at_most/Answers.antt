-- The walk over the entries answers for every entry. Assumes nothing.
use Rattle.std.proofs.Common.{rules}
use Rattle.session.specs.Fits.{entry_at_most}
use Rattle.directory.proofs.EntryRuns.{every-of}
use Rattle.session_agree.proofs.entries_at_most.Goals as goal

pub returns : goal.returns
returns c = every-of (entry_at_most c.args.s) c.entries.ensures.gives (λ x b q k. search rules) c.all.ensures.ran
