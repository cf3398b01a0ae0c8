-- "Reading a card needs no session". Assumes nothing.
use Rattle.std.specs.Prelude.{List, ℕ, length}
use Rattle.sectors.specs.Sectors.{Cells, sec}
use Rattle.counts.specs.declared.Geo.{Geo}
use Rattle.counts.specs.Geometry.{g_n, geo_of, count_of, table_of}
use Rattle.directory.specs.Directory.{entries_of}
use Rattle.apages.specs.Bits.{clear_bits}
use Rattle.apages.specs.Index.{page_in}
use Rattle.card.specs.declared.Line.{Line}
use Rattle.card.specs.Plan.{Lined, Report, Plan, guard, ended, go_ahead, Got, Listed}
use Rattle.card.specs.Files.{files_of, get_plan, get_end, list_plan, list_end, line_end}
use Rattle.card.specs.Sound.{shape_ok, sound}

-- the files that a card shows
unfoldable pub files_in : Geo → Cells → List Line
files_in g k = files_of (table_of g k) (entries_of g k)

unfoldable pub files_shown : List ℕ → List Line
files_shown img = files_in (geo_of (sec img)) (sec img)

-- the apage that a card shows
unfoldable pub page_shown : List ℕ → List ℕ
page_shown img = page_in (geo_of (sec img)) (table_of (geo_of (sec img)) (sec img)) (sec img)

-- every reading call tests 1, then 2
unfoldable pub read_plan : List ℕ → Plan → Plan
read_plan img p = guard 1 (shape_ok img) (guard 2 (sound img) p)

-- "it gives C, N, the file count and the clear bits shown (1, 2)"
unfoldable pub read : List ℕ → Report
read img =
    ended (read_plan img go_ahead) (λ k. record { number = k; c = record { 0 = 0 }; n = 0; files = 0; free = 0 })
    (λ j a. record { number = 0; c = record { 0 = count_of (sec img) }; n = g_n (geo_of (sec img)); files = length (files_shown img); free = clear_bits (page_shown img) })

-- "its own list (1, 2, 10)"
unfoldable pub read_list : List ℕ → List Line → Listed
read_list img lines = list_end (files_shown img) lines (read_plan img (list_plan (files_shown img) (length lines)))

-- the line at a position (1, 2)
unfoldable pub read_line : List ℕ → ℕ → Lined
read_line img i = line_end (files_shown img) i (read_plan img go_ahead)

-- "and get (1, 2, 5, 6, 10) over the shown files"
unfoldable pub read_get : List ℕ → List ℕ → List ℕ → Got
read_get img n out =
    let g = geo_of (sec img) in
    let tab = table_of g (sec img) in
    get_end g tab img out (read_plan img (get_plan g tab img n out))
