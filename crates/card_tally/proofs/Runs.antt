-- The run that an entry shows ends at S or before. Assumes nothing.
use Rattle.std.proofs.Common.{◌≡◌, ℕ, ◌+◌, ◌*◌, ◌≤◌, ◌<◌, List}
use Rattle.sectors.specs.Sectors.{sec}
use Rattle.counts.specs.declared.Geo.{Geo}
use Rattle.entries.specs.declared.Run.{Run}
use Rattle.directory.specs.Directory.{entries_of}
use Rattle.directory.proofs.DirectoryLaws.{entries-lt}
use Rattle.card.specs.Files.{run_at}
use Rattle.card.specs.Inner.{RunsOk}
use Rattle.card.proofs.TallyTests.{run-below}

pub run-room : (g : Geo) (tab img : List ℕ) → RunsOk g tab (entries_of g (sec img)) → {j : ℕ} {r : Run} → j < 4 * g.d → r ≡ run_at g tab img j → r.start.0 + r.sectors ≤ g.s
unfolding run_at
run-room g tab img runs {j} l e = run-below g tab (entries_of g (sec img)) runs j (entries-lt g img j l) e
