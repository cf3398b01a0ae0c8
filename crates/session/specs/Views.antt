-- "A session": its stamp (c, t), and its two views. Assumes nothing.
use Rattle.std.specs.Prelude.{cond, List, [], ℕ, ◌-◌, Some, None}
use Rattle.sectors.specs.Sectors.{Cells, sec}
use Rattle.counts.specs.declared.Stamp.{Stamp}
use Rattle.counts.specs.declared.View.{View}
use Rattle.counts.specs.Geometry.{table_of}
use Rattle.counts.specs.Stamps.{table_in, as_is}
use Rattle.directory.specs.Directory.{entries_of}
use Rattle.apages.specs.Index.{page_in}
use Rattle.card.specs.declared.Line.{Line}
use Rattle.card.specs.Files.{files_of}
use Rattle.session.specs.declared.Opened.{Opened}
use Rattle.session.specs.Session.{Session}

-- "stamp (c, t)"
unfoldable pub own_stamp : Opened → Stamp
own_stamp s = record { cc = s.c; txc = s.t }

-- "The present view takes word c as t; .. in a worn session both take it as the table has it."
unfoldable pub present_view : Opened → View
present_view s = cond s.worn (as_is s.geo) (record { c = s.c; t = s.t })

unfoldable pub present_table : Opened → Cells → List ℕ
present_table s k = table_in s.geo (present_view s) k

-- "the cut view takes it as t − 1; in a worn session both take it as the table has it"
unfoldable pub cut_view : Opened → View
cut_view s = cond s.worn (as_is s.geo) (record { c = s.c; t = record { 0 = s.t.0 - 1 } })

-- the cut view's table is the working image's as it is: `cut-table` (FitLaws) says that this is what `cut_view` takes it as
unfoldable pub cut_table : Opened → Cells → List ℕ
cut_table s k = table_of s.geo k

-- the map that the present view shows, and the one that the cut view shows
unfoldable pub present_page : Opened → Cells → List ℕ
present_page s k = page_in s.geo (present_table s k) k

unfoldable pub cut_page : Opened → Cells → List ℕ
cut_page s k = page_in s.geo (cut_table s k) k

-- the files that a session shows: those of its present view
unfoldable pub present_files : Opened → Cells → List Line
present_files s k = files_of (present_table s k) (entries_of s.geo k)

unfoldable pub session_files : Session → List ℕ → List Line
session_files None work = []
session_files (Some s) work = present_files s (sec work)
