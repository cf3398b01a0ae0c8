-- The walk over the entries stops at the first that passes. Assumes nothing.
use borrow.Author.Rules.{rules}
use Rattle.sectors.specs.Sectors.{sec}
use Rattle.counts.specs.Stamps.{table_in}
use Rattle.directory.specs.Directory.{named}
use Rattle.directory.proofs.EntryRuns.{first-of}
use Rattle.directory_search.proofs.find_name.Goals as goal

pub returns : goal.returns
returns c = let a = c.args in first-of (named (table_in a.card.geo a.v (sec a.card.bytes.now)) (table_in a.card.geo a.w (sec a.card.bytes.now)) a.name.now) c.entries.ensures.gives (λ x b q k. search rules) c.position.ensures.ran
