-- What the contracts of inner functions cite besides the words of the papers: what such a function asks of its caller, and what it answers. Assumes nothing.
use Rattle.std.specs.Prelude.{◌≡◌, true, List, [], ℕ, ◌<◌, length, get_or, leb}
use Rattle.words.specs.Bytes.{word_at}
use Rattle.counts.specs.declared.Geo.{Geo}
use Rattle.entries.specs.declared.Run.{Run}
use Rattle.entries.specs.Entries.{shown, run_ok, name_bytes}
use Rattle.card.specs.Files.{run_of, run_at, get_plan, get_end}
use Rattle.card.specs.declared.Line.{Line}
use Rattle.card.specs.declared.Answer.{Answer}
use Rattle.card.specs.Plan.{guard, do_at, Got}

-- every entry shows a run that is well formed
abbrev pub RunsOk : Geo → List ℕ → List (List ℕ) → Type 0
RunsOk g tab es = (j : ℕ) → j < length es → run_ok g (run_of (shown tab (get_or es j []))) ≡ true

-- the line of an entry with that run
unfoldable pub line_of : List ℕ → Run → Line
line_of p r = record { size = word_at p 8; name = name_bytes p; run = r }

-- an answer and an output are those that a definition gives
abbrev pub IsGot : Answer → List ℕ → Got → Type 0
IsGot r x q = (r ≡ q.answer) × (x ≡ q.out)

-- what get leaves once an entry is found
unfoldable pub get_at : Geo → List ℕ → List ℕ → List ℕ → ℕ → Got
get_at g tab img out j = get_end g tab img out (guard 10 (leb (run_at g tab img j).bytes (length out)) (do_at j))

unfoldable pub get_in : Geo → List ℕ → List ℕ → List ℕ → List ℕ → Got
get_in g tab img n out = get_end g tab img out (get_plan g tab img n out)
