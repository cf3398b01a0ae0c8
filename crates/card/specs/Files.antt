-- The files that a view shows, the sectors they hold, and their contents. Assumes nothing.
use mathlib.Core.List.{List, [], ◌∷◌, ◌++◌, Memᴰ}
use Rattle.std.specs.Prelude.{ℕ, ◌+◌, ◌*◌, ◌≤◌, ◌<◌, length, take, drop, get_or, replicate, leb, ltb}
use Rattle.words_sums.specs.Sums.{bit, in_run}
use Rattle.words.specs.Lists.{first_at, splice}
use Rattle.words.specs.Bytes.{word_at}
use Rattle.sectors.specs.Sectors.{sec}
use Rattle.counts.specs.declared.Geo.{Geo}
use Rattle.entries.specs.declared.Run.{Run}
use Rattle.entries.specs.declared.Version.{Version}
use Rattle.entries.specs.declared.Version.TheVariants.{Absent, Present}
use Rattle.entries.specs.Entries.{shown, name_bytes, good_name, Piece, pieces_of}
use Rattle.directory.specs.Directory.{entries_of, named}
use Rattle.card.specs.declared.Line.{Line}
use Rattle.card.specs.Plan.{Lined, Plan, guard, need, ended, go_ahead, do_at, refused, done, Got, Listed}

-- the line of an entry that shows a version, where it is present
unfoldable pub cons_file : List ℕ → Version → List Line → List Line
cons_file p Absent r = r
cons_file p (Present run) r = record { size = word_at p 8; name = name_bytes p; run = run } ∷ r

-- the files of a view, "one line a file, in entry order"
unfoldable pub files_of : List ℕ → List (List ℕ) → List Line
files_of tab [] = []
files_of tab (p ∷ ps) = cons_file p (shown tab p) (files_of tab ps)

-- ---- the sectors of files

-- sector n is one of a piece's
abbrev pub InPiece : Piece → ℕ → Type 0
InPiece q n = (q.at ≤ n) × (n < q.at + q.count)

-- a file holds sector n: one of its pieces does
abbrev pub FileHolds : Run → ℕ → Type 0
FileHolds r n = (q : Piece) × Memᴰ q (pieces_of r) × InPiece q n

-- how many of some pieces hold sector n
unfoldable pub in_pieces : List Piece → ℕ → ℕ
in_pieces [] n = 0
in_pieces (q ∷ qs) n = in_run q.at q.count n + in_pieces qs n

-- how many pieces of a file hold sector n
unfoldable pub holds_at : Run → ℕ → ℕ
holds_at r n = in_pieces (pieces_of r) n

-- how many of the files hold sector n: "each in one file"
unfoldable pub cover : List Line → ℕ → ℕ
cover [] n = 0
cover (f ∷ fs) n = holds_at f.run n + cover fs n

-- the sectors of all files
unfoldable pub sectors_of : List Line → ℕ
sectors_of [] = 0
sectors_of (f ∷ fs) = f.run.sectors + sectors_of fs

-- the bytes of some pieces, one behind the other
unfoldable pub pieces_in : List ℕ → List Piece → List ℕ
pieces_in img [] = []
pieces_in img (q ∷ qs) = take (512 * q.count) (drop (512 * q.at) img) ++ pieces_in img qs

-- the content of a file: the first bytes of its pieces
unfoldable pub content_of : List ℕ → Run → List ℕ
content_of img r = take r.bytes (pieces_in img (pieces_of r))

-- the run of a version; an absent one has none
unfoldable pub run_of : Version → Run
run_of Absent = record { start = record { 0 = 0 }; sectors = 0; bytes = 0 }
run_of (Present r) = r

-- ---- get and list over one view: reading a card and a session's present view share them

-- the run that entry j shows
unfoldable pub run_at : Geo → List ℕ → List ℕ → ℕ → Run
run_at g tab img j = run_of (shown tab (get_or (entries_of g (sec img)) j []))

-- "get .. 5, 6, 10"
unfoldable pub get_plan : Geo → List ℕ → List ℕ → List ℕ → List ℕ → Plan
get_plan g tab img n out =
    guard 5 (good_name n) (need 6 (first_at (named tab tab n) 0 (entries_of g (sec img)))
    (λ j. guard 10 (leb (run_at g tab img j).bytes (length out)) (do_at j)))

-- "Get fills the first bytes of the output and leaves the rest."
unfoldable pub get_end : Geo → List ℕ → List ℕ → List ℕ → Plan → Got
get_end g tab img out p =
    ended p (λ k. record { answer = refused k; out = out })
    (λ j a. record { answer = done (run_at g tab img j).bytes; out = splice out 0 (content_of img (run_at g tab img j)) })

-- "list .. 10", for a lent table of `room` lines
unfoldable pub list_plan : List Line → ℕ → Plan
list_plan files room = guard 10 (leb (length files) room) go_ahead

-- "List fills a lent table of lines, one line a file, in entry order ..; later lines stay."
unfoldable pub list_end : List Line → List Line → Plan → Listed
list_end files lines p =
    ended p (λ k. record { answer = refused k; lines = lines }) (λ j a. record { answer = done (length files); lines = files ++ drop (length files) lines })

-- a line where there is no file
unfoldable pub no_line : Line
no_line = record { size = 0; name = replicate 32 0; run = run_of Absent }

-- the line at a position: one line of the table that list fills, with count 1, or none, with count 0
unfoldable pub line_end : List Line → ℕ → Plan → Lined
line_end files i p =
    ended p (λ k. record { answer = refused k; line = no_line })
    (λ j a. record { answer = done (bit (ltb i (length files))); line = get_or files i no_line })
