-- The bitmap against the files with no map: the bits outside the data are set, so are those of every run, no two runs meet, and the ones of
-- the bitmap are as many. Assumes nothing.
use Rattle.std.specs.Prelude.{Bool, ◌&&◌, ◌||◌, List, ℕ, ◌+◌, ◌-◌, ◌*◌, leb, eqb, length}
use Rattle.words.specs.Lists.{every, pairwise}
use Rattle.counts.specs.declared.Geo.{Geo}
use Rattle.counts.specs.Geometry.{g_f}
use Rattle.entries.specs.declared.Run.{Run}
use Rattle.entries.specs.Entries.{shown}
use Rattle.apages.specs.Ones.{set_bits, all_set}
use Rattle.card.specs.Files.{files_of, sectors_of, run_of}

-- the bits of a run are set
unfoldable pub is_held : List ℕ → Run → Bool
is_held m r = all_set m r.start.0 r.sectors

-- two runs do not meet: one ends where the other starts, or before
unfoldable pub parted : Run → Run → Bool
parted r q = leb (r.start.0 + r.sectors) q.start.0 || leb (q.start.0 + q.sectors) r.start.0

-- the same of the runs that two entries show, and of the run that one shows
abbrev pub held_by : List ℕ → List ℕ → List ℕ → Bool
held_by tab m p = is_held m (run_of (shown tab p))

abbrev pub parted_from : List ℕ → Run → List ℕ → Bool
parted_from tab r q = parted r (run_of (shown tab q))

abbrev pub parted_in : List ℕ → List ℕ → List ℕ → Bool
parted_in tab p q = parted_from tab (run_of (shown tab p)) q

-- how many of n bits lie below F or from S up
unfoldable pub fixed_bits : Geo → ℕ → ℕ
fixed_bits g n = n - (g.s - g_f g)

-- a map passes by its ones and the files' own runs
unfoldable pub tally_ok : Geo → List ℕ → List (List ℕ) → List ℕ → Bool
tally_ok g tab es m =
    all_set m 0 (g_f g) && all_set m g.s (8 * length m - g.s) && every (held_by tab m) es && pairwise (parted_in tab) es
    && eqb (set_bits m) (fixed_bits g (8 * length m) + sectors_of (files_of tab es))
