-- The loop's invariant: the answer is that for the entries that are left. Assumes nothing.
use Rattle.std.proofs.Common.{[], arith, ap, not}
use Rattle.words.proofs.EveryLaws.{every-stop, every-go, every-end}
use Rattle.sectors.specs.Sectors.{sec}
use Rattle.directory.specs.Directory.{entries_of}
use Rattle.directory.proofs.DirectoryLaws.{entries-lt, entries-le}
use Rattle.card.specs.Files.{run_at}
use Rattle.card_tally.proofs.Runs.{run-room}
use Rattle.card_tally.proofs.parted_from.Goals as goal

pub parted-requires : goal.parted-requires
parted-requires c =
    let r = c.requires in
    (omega (arith, r.0, c.args.card.laid.s), omega (arith, c.args.card.laid.s, run-room _ _ _ r.1.1 c.loop-j-test.true c.run_at.ensures))

pub returns-then-not-parted : goal.returns-then-not-parted
unfolding run_at
returns-then-not-parted c =
    every-stop _ (entries_of c.args.card.geo (sec c.args.card.bytes.now)) [] _ _ (entries-lt _ _ _ c.loop-j-test.true) (rw c.run_at.ensures at c.parted.ensures) (ap not c.if-not-parted.true) c.loop-j.invariant

pub loop-j-preserved : goal.loop-j-preserved
unfolding run_at
loop-j-preserved c =
    every-go _ (entries_of c.args.card.geo (sec c.args.card.bytes.now)) [] _ _ (entries-lt _ _ _ c.loop-j-test.true) (rw c.run_at.ensures at c.parted.ensures) (ap not c.if-not-parted.false) c.loop-j.invariant

pub returns : goal.returns
returns c = every-end _ _ [] _ (entries-le _ _ _ c.loop-j-test.false) c.loop-j.invariant
