-- What a put or remove that gives 0 changes in the working image, and that all the rest stays as it was. Assumes nothing.
use Rattle.std.specs.Prelude.{◌≡◌, List, [], ◌⊎◌, ℕ, ◌*◌, ◌/◌, ◌≤◌, ◌<◌, length, get_or, set}
use Rattle.sectors.specs.Sectors.{sec}
use Rattle.counts.specs.Geometry.{g_p, g_f}
use Rattle.entries.specs.declared.Run.{Run}
use Rattle.entries.specs.declared.Version.{Version}
use Rattle.directory.specs.Directory.{entries_of}
use Rattle.apages.specs.Bits.{bit_at}
use Rattle.card.specs.Files.{FileHolds, run_of, run_at, pieces_in}
use Rattle.session.specs.declared.Opened.{Opened}
use Rattle.session.specs.Views.{present_table, present_page, own_stamp, cut_page}
use Rattle.words.specs.Lists.{pad}
use Rattle.entries.specs.Entries.{entry_of, entry_bytes, changed, pieces_of}
use Rattle.apages.specs.Inner.{PairSame}

-- the run that entry j's file held in the present view
abbrev pub earlier_run : Opened → List ℕ → ℕ → Run
earlier_run s work j = run_at s.geo (present_table s (sec work)) work j

-- a bit of page q changes: the version holds a sector in it, or the file held one before
abbrev pub Changes : Opened → List ℕ → ℕ → Version → ℕ → Type 0
Changes s work j v q = (i : ℕ) × (FileHolds (run_of v) i ⊎ FileHolds (earlier_run s work j) i) × (q ≡ i / 4096)

-- after is work, but for entry j (name n, version v), content d in the sectors of v, and the bitmap's bits of these and of the file's earlier sectors
pub record Untouched (s : Opened) (j : ℕ) (v : Version) (work n d after : List ℕ) : Type 0 where
  -- the working image keeps its size
  pub size : length after ≡ length work
  -- the head and the table, sectors 0 to T, are the same
  pub head : (i : ℕ) → i ≤ s.geo.t → sec after i ≡ sec work i
  -- entry j gets the name and the version; every other entry is the same
  pub entries : entries_of s.geo (sec after)
      ≡ set (entries_of s.geo (sec work)) j (entry_bytes (changed (present_table s (sec work)) (own_stamp s) (entry_of (get_or (entries_of s.geo (sec work)) j [])) n v))
  -- every data sector that the version does not hold is the same
  pub others : (i : ℕ) → g_f s.geo ≤ i → ¬ FileHolds (run_of v) i → sec after i ≡ sec work i
  -- its pieces hold the content; the last sector is filled with zeros
  pub content : pieces_in after (pieces_of (run_of v)) ≡ pad (512 * (run_of v).sectors) d
  -- the present map: the bits of the version's sectors are set, those of the earlier sectors are cleared, every other bit is the same
  pub taken : (i : ℕ) → FileHolds (run_of v) i → bit_at (present_page s (sec after)) i ≡ 1
  pub freed : (i : ℕ) → FileHolds (earlier_run s work j) i → bit_at (present_page s (sec after)) i ≡ 0
  pub bits : (i : ℕ) → ¬ FileHolds (run_of v) i → ¬ FileHolds (earlier_run s work j) i → bit_at (present_page s (sec after)) i ≡ bit_at (present_page s (sec work)) i
  -- a pair of pages in which no bit changes is the same to the byte, its group too
  pub pairs : (q : ℕ) → q < g_p s.geo → ¬ Changes s work j v q → PairSame s.geo work after q
  -- the map that the cut view shows is the same
  pub cut : cut_page s (sec after) ≡ cut_page s (sec work)
