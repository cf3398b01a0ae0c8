-- The walk over the numbers of the later entries answers for what is left of the list. Assumes nothing.
use mathlib.Core.Path.{sym}
use mathlib.Core.List.{[]}
use native.Mathlib.Omega.{arith}
use borrow.Author.Rules.{rules}
use lib.ListN.{get_or}
use Rattle.sectors.specs.Sectors.{sec}
use Rattle.counts.specs.Stamps.{table_in}
use Rattle.directory.specs.Directory.{entries_of, apart}
use Rattle.directory.proofs.DirectoryLaws.{entries-length}
use Rattle.directory.proofs.EntryRuns.{rest-of}
use Rattle.directory_rules.proofs.apart_from.Goals as goal

pub returns : goal.returns
returns c =
    let a = c.args in
    let es = entries_of a.card.geo (sec a.card.bytes.now) in
    rest-of (apart (table_in a.card.geo a.v (sec a.card.bytes.now)) (table_in a.card.geo a.w (sec a.card.bytes.now)) (get_or es a.i [])) es (λ x b q k. search rules) c.all.ensures.ran (omega arith) (sym (entries-length a.card.geo a.card.bytes.now))
