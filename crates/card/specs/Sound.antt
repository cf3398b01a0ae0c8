-- "A card is sound when all of this holds". Assumes nothing.
use Rattle.std.specs.Prelude.{Bool, ◌&&◌, List, ℕ, ◌*◌, length, drop, leb, eqb}
use Rattle.words.specs.Lists.{every, pairwise, is_zero}
use Rattle.sectors.specs.Sectors.{Cells, sec}
use Rattle.counts.specs.declared.Geo.{Geo}
use Rattle.counts.specs.Geometry.{g_n, geo_ok, geo_of, count_of, table_of}
use Rattle.counts.specs.Stamps.{table_ok}
use Rattle.entries.specs.Entries.{entry_ok}
use Rattle.directory.specs.Directory.{entries_of, apart}
use Rattle.apages.specs.Runs.{page_ok}
use Rattle.apages.specs.Index.{index_in, index_ok, page_in}
use Rattle.card.specs.Files.{files_of, cover}

-- a view passes the index, entry and bitmap rules; a dead stamp has its count below `bound`
unfoldable pub view_ok : Geo → ℕ → List ℕ → Cells → Bool
view_ok g bound tab k =
    index_ok g bound tab (index_in g k)
    && (every (entry_ok g bound tab) (entries_of g k) && page_ok g (cover (files_of tab (entries_of g k))) (page_in g tab k))

-- "C is at most N"; "the rest 0"; the table
abbrev pub counts_ok : Geo → Cells → Bool
counts_ok g k = leb (count_of k) (g_n g) && every is_zero (drop 16 (k 0)) && table_ok g (count_of k) (table_of g k)

-- the counts; stamps, A and B, shown versions, names and bits; "no two alike"
unfoldable pub sound_in : Geo → Cells → Bool
sound_in g k = counts_ok g k && view_ok g (count_of k) (table_of g k) k && pairwise (apart (table_of g k) (table_of g k)) (entries_of g k)

-- the opposite of number 1: "geometry outside the limits, an image not of 512·S bytes for the S .. stored, or too short to store one"
unfoldable pub shape_ok : List ℕ → Bool
shape_ok img = geo_ok (geo_of (sec img)) && eqb (length img) (512 * (geo_of (sec img)).s)

-- "the card is .. sound", for an image of the right shape
unfoldable pub sound : List ℕ → Bool
sound img = sound_in (geo_of (sec img)) (sec img)
