-- The walk over the entries answers for every entry. Assumes nothing.
use borrow.Author.Rules.{rules}
use Rattle.sectors.specs.Sectors.{sec}
use Rattle.counts.specs.Stamps.{table_in}
use Rattle.entries.specs.Entries.{entry_ok}
use Rattle.directory.proofs.EntryRuns.{every-of}
use Rattle.directory_rules.proofs.entries_ok.Goals as goal

pub returns : goal.returns
returns c = let a = c.args in every-of (entry_ok a.card.geo a.bound.0 (table_in a.card.geo a.v (sec a.card.bytes.now))) c.entries.ensures.gives (λ x b q k. search rules) c.all.ensures.ran
