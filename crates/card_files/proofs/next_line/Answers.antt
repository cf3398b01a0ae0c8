-- The loop's invariant: the files from the first entry on are those that are left. Assumes nothing.
use Rattle.std.proofs.Common.{◌∙◌}
use Rattle.directory.proofs.DirectoryLaws.{entries-lt, entries-le}
use Rattle.card_files.proofs.Listed.{next-one, next-none, next-end}
use Rattle.card_files.proofs.next_line.Goals as goal

pub returns-then-shows : goal.returns-then-shows
returns-then-shows c =
    c.loop-j.invariant ∙ rw c.line_of-line.ensures (rw c.entry-p.ensures.bytes (next-one _ _ c.loop-j.j (entries-lt _ _ _ c.loop-j-test.true) (rw c.entry-p.ensures.bytes at c.if-shows.ensures)))

pub loop-j-preserved : goal.loop-j-preserved
loop-j-preserved c = c.loop-j.invariant ∙ next-none _ _ c.loop-j.j (entries-lt _ _ _ c.loop-j-test.true) (rw c.entry-p.ensures.bytes at c.if-shows.ensures)

pub returns : goal.returns
returns c = c.loop-j.invariant ∙ next-end _ _ c.loop-j.j (entries-le _ _ c.loop-j.j c.loop-j-test.false)
