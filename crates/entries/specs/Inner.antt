-- What the contracts of inner functions cite besides the words of the papers: what such a function asks of its caller, and what it answers. Assumes nothing.
use Rattle.std.specs.Prelude.{List, ℕ, length}
use Rattle.words.specs.Lists.{pad}
use Rattle.counts.specs.declared.Stamp.{Stamp}
use Rattle.counts.specs.declared.Standing.{Standing}
use Rattle.counts.specs.Stamps.{becomes_old}
use Rattle.entries.specs.declared.Version.{Version}
use Rattle.entries.specs.declared.Entry.{Entry}

-- an entry changed by how its stamp stood to the session's own
unfoldable pub changed_as : Standing → Stamp → Entry → List ℕ → Version → Entry
changed_as st own e name v = record { stamp = own; size = length name; name = pad 32 name; new = v; old = becomes_old st e.new e.old }
