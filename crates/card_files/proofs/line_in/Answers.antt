-- The line of the entry that stands at that position of those that show a file. Assumes nothing.
use Rattle.std.proofs.Common.{rules, ◌≡◌}
use Rattle.std.specs.Prelude.{None}
use Rattle.std.specs.Slice.Iter.{chunks_exact_steps}
use Rattle.std.proofs.lemmas.Iterator.{YieldsList}
use Rattle.std.proofs.lemmas.Iterator.Consumers.{nth_from_yields_List, YieldsList-at, YieldsList-from_filter}
use Rattle.sectors.specs.Sectors.{sec}
use Rattle.counts.specs.Stamps.{table_in}
use Rattle.directory.specs.Directory.{entries_of}
use Rattle.card_files.specs.Inner.{shows}
use Rattle.card_files.proofs.Listed.{line-none, line-some, entries-long, shown-long}
use Rattle.card_files.proofs.line_in.Goals as goal

pub returns-in_err-p : goal.returns-in_err-p
returns-in_err-p c =
    let tab = table_in c.args.card.geo c.args.v (sec c.args.card.bytes.now) in
    let es = entries_of c.args.card.geo (sec c.args.card.bytes.now) in
    let y : YieldsList chunks_exact_steps (λ p. p.now) _ es = YieldsList-at c.filter.ensures.source record { runs = c.entries.ensures.gives.yields } in
    let n = nth_from_yields_List _ _ _ c.nth.ensures.ran (YieldsList-from_filter _ (shows tab) y c.filter.ensures.closure (λ x b q h. search rules)) in
    let z : c.from_residual.result ≡ None = search rules in
    rw z (line-none tab es c.args.i _ n c.in_err-p.was)

pub line_of-requires : goal.line_of-requires
line_of-requires c =
    let tab = table_in c.args.card.geo c.args.v (sec c.args.card.bytes.now) in
    let es = entries_of c.args.card.geo (sec c.args.card.bytes.now) in
    let y : YieldsList chunks_exact_steps (λ p. p.now) _ es = YieldsList-at c.filter.ensures.source record { runs = c.entries.ensures.gives.yields } in
    let n = nth_from_yields_List _ _ _ c.nth.ensures.ran (YieldsList-from_filter _ (shows tab) y c.filter.ensures.closure (λ x b q h. search rules)) in
    shown-long tab es c.args.i _ (entries-long c.args.card.geo c.args.card.bytes.now c.args.card.laid) n c.in_ok-p.was

pub returns : goal.returns
returns c =
    let tab = table_in c.args.card.geo c.args.v (sec c.args.card.bytes.now) in
    let es = entries_of c.args.card.geo (sec c.args.card.bytes.now) in
    let y : YieldsList chunks_exact_steps (λ p. p.now) _ es = YieldsList-at c.filter.ensures.source record { runs = c.entries.ensures.gives.yields } in
    let n = nth_from_yields_List _ _ _ c.nth.ensures.ran (YieldsList-from_filter _ (shows tab) y c.filter.ensures.closure (λ x b q h. search rules)) in
    line-some tab es c.args.i _ n c.in_ok-p.was c.line_of.ensures
