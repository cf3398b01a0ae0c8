-- The entries that show a file are as many as the files. Assumes nothing.
use Rattle.std.proofs.Common.{◌∙◌, rules}
use Rattle.sectors.specs.Sectors.{sec}
use Rattle.counts.specs.Stamps.{table_in}
use Rattle.directory.proofs.EntryRuns.{count-of}
use Rattle.card_files.specs.Inner.{shows}
use Rattle.card_files.proofs.Listed.{count-is}
use Rattle.card_files.proofs.file_count.Goals as goal

pub returns : goal.returns
returns c =
    count-of (shows (table_in c.args.card.geo c.args.v (sec c.args.card.bytes.now))) c.entries.ensures.gives (λ x b q h. search rules) c.filter.ensures.source c.filter.ensures.closure c.count.ensures.ran
    ∙ count-is _ _
