-- "directory, four entries a sector": the entries in order beside the list of their places. Assumes nothing.
use Rattle.std.specs.Prelude.{Bool, not, ◌&&◌, ◌||◌, List, [], ◌∷◌, ◌++◌, ℕ, zero, suc, get_or}
use Rattle.words.specs.Lists.{part, set_part, eq_list}
use Rattle.sectors.specs.Sectors.{Cells, sec, set_sec}
use Rattle.counts.specs.declared.Geo.{Geo}
use Rattle.counts.specs.Geometry.{g_dir}
use Rattle.entries.specs.Entries.{shown, is_absent, name_of}

-- the four entries of a sector
unfoldable pub sector_entries : List ℕ → List (List ℕ)
sector_entries s = part 128 s 0 ∷ part 128 s 1 ∷ part 128 s 2 ∷ part 128 s 3 ∷ []

-- the entries of n sectors from sector i on
unfoldable pub entries_from : ℕ → ℕ → Cells → List (List ℕ)
entries_from i zero k = []
entries_from i (suc n) k = sector_entries (k i) ++ entries_from (suc i) n k

-- sectors T+2+2P to F−1: "directory"
unfoldable pub entries_of : Geo → Cells → List (List ℕ)
entries_of g k = entries_from (g_dir g) g.d k

-- where an entry lies: a sector, and which of its four
pub record Spot : Type 0 where
  pub sector : ℕ
  pub slot : ℕ

-- the places of the entries of n sectors from sector i on, in the same order
unfoldable pub spots_from : ℕ → ℕ → List Spot
spots_from i zero = []
spots_from i (suc n) =
    record { sector = i; slot = 0 } ∷ record { sector = i; slot = 1 } ∷ record { sector = i; slot = 2 } ∷ record { sector = i; slot = 3 } ∷ spots_from (suc i) n

unfoldable pub spot_of : Geo → ℕ → Spot
spot_of g j = get_or (spots_from (g_dir g) g.d) j (record { sector = 0; slot = 0 })

-- the image with an entry's bytes at a place: "One sector write."
unfoldable pub set_entry : Spot → List ℕ → List ℕ → List ℕ
set_entry p e img = set_sec img p.sector (set_part 128 (sec img p.sector) p.slot e)

-- ---- names of two entries, in two views

-- an entry that shows no file in either of two views
unfoldable pub gone : List ℕ → List ℕ → List ℕ → Bool
gone tp tc p = is_absent (shown tp p) && is_absent (shown tc p)

-- two entries that do not both show a file, in either view, under one name
unfoldable pub apart : List ℕ → List ℕ → List ℕ → List ℕ → Bool
apart tp tc p q = gone tp tc p || gone tp tc q || not (eq_list (name_of p) (name_of q))

-- an entry that shows, in either view, a file of that name
unfoldable pub named : List ℕ → List ℕ → List ℕ → List ℕ → Bool
named tp tc n p = not (gone tp tc p) && eq_list n (name_of p)
