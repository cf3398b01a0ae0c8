-- What the contracts of inner functions cite besides the words of the papers: what such a function asks of its caller, and what it answers. Assumes nothing.
use Rattle.std.specs.Prelude.{◌≡◌, List, [], ◌∷◌, true, ℕ, zero, suc, ◌+◌, ◌*◌, ◌%◌, ◌≤◌, ◌<◌, take, drop, Option, Some, None}
use Rattle.std.specs.Int.Bits.{bit_or}
use Rattle.words.specs.Lists.{is_zero}
use Rattle.words.specs.Bytes.{word_at}
use Rattle.sectors.specs.Sectors.{sec, Cells}
use Rattle.counts.specs.Geometry.{g_p, pair_low, pair_high}
use Rattle.counts.specs.declared.Geo.{Geo}
use Rattle.entries.specs.declared.Run.{Run}
use Rattle.apages.specs.Bits.{bit_at, bits_of}
use Rattle.apages.specs.Index.{group_of, index_in, pair_ok, map_from}
use Rattle.apages.specs.Runs.{merge, find_run}

-- how many of two pages have the bit of sector n set: 0 where it is free in both
unfoldable pub busy_at : List ℕ → List ℕ → ℕ → ℕ
busy_at p q n = bit_at p n + bit_at q n

-- r sectors from n on are alike: all free in both of two pages, or all busy
abbrev pub Alike : List ℕ → List ℕ → ℕ → ℕ → Type 0
Alike p q n r = (i : ℕ) → n ≤ i → i < n + r → is_zero (busy_at p q i) ≡ is_zero (busy_at p q n)

-- the length of the free run that ends with n sectors that are alike, from that of the run before them
abbrev pub run_up_to : ℕ → ℕ → ℕ → ℕ
run_up_to zero have n = have + n
run_up_to (suc b) have n = 0

-- the lowest run in one page from sector i on and below sector e
unfoldable pub run_within : ℕ → ℕ → ℕ → List ℕ → List ℕ → Option ℕ
run_within k i e p q = find_run k i (drop i (take e (merge (bits_of p) (bits_of q))))

-- what was found, d further
unfoldable pub further : ℕ → Option ℕ → Option ℕ
further d (Some i) = Some (d + i)
further d None = None

-- A and B of every group are its pair
abbrev pub PairIn : Geo → List ℕ → Type 0
PairIn g img = (p : ℕ) → p < g_p g → pair_ok g p (word_at (group_of (index_in g (sec img)) p) 8) (word_at (group_of (index_in g (sec img)) p) 12) ≡ true

-- a sector that is one of pair p
abbrev pub IsPage : Geo → ℕ → ℕ → Type 0
IsPage g p a = (pair_low g p ≤ a) × (a ≤ pair_high g p)

-- the sectors of a run, if any, lie in one page of the map
abbrev pub InOnePage : Geo → Run → Type 0
InOnePage g r = (r.start.0 % 4096 + r.sectors ≤ 4096) × (0 < r.sectors → r.start.0 < 4096 * g_p g)

-- pair q is as it was, to the byte: its group, and both of its pages
pub record PairSame (g : Geo) (img img' : List ℕ) (q : ℕ) : Type 0 where
  pub group : group_of (index_in g (sec img')) q ≡ group_of (index_in g (sec img)) q
  pub first : sec img' (pair_low g q) ≡ sec img (pair_low g q)
  pub second : sec img' (pair_high g q) ≡ sec img (pair_high g q)

-- the bytes of a group, as code lends them: 16 of them from 512 (T + 1) + 16p on
abbrev pub group_at : Geo → ℕ → ℕ
group_at g p = 512 * (g.t + 1) + 16 * p

-- how many of the two maps have the bit set, over n pages from pair p on
unfoldable pub merge_from : Geo → List ℕ → List ℕ → Cells → ℕ → ℕ → List ℕ
merge_from g tp tc k p n = merge (bits_of (map_from g tp k p n)) (bits_of (map_from g tc k p n))

-- the search over n pages from pair p on, of two views' maps
unfoldable pub run_from : Geo → List ℕ → List ℕ → Cells → ℕ → ℕ → ℕ → Option ℕ
run_from g tp tc k c p n = find_run c (4096 * p) (merge_from g tp tc k p n)

-- the bits that either number has
unfoldable pub either_of : ℕ → ℕ → ℕ
either_of x y = bit_or x y

-- the bytes of two maps, one by one
unfoldable pub either : List ℕ → List ℕ → List ℕ
either [] q = []
either (x ∷ p) [] = []
either (x ∷ p) (y ∷ q) = either_of x y ∷ either p q
