-- Document 02, No. 1, "The free figure misleads", stated of any call that gives the two figures. Assumes nothing.
use Rattle.std.specs.Prelude.{◌≡◌, Bool, true, false, not, ◌&&◌, List, ◌↔◌, ℕ, ◌+◌, ◌≤◌, ◌<◌, eqb, length, Some}
use Rattle.words_sums.specs.Sums.{bit, total}
use Rattle.sectors.specs.Sectors.{sec}
use Rattle.counts.specs.Geometry.{g_f}
use Rattle.entries.specs.Entries.{sectors_for}
use Rattle.apages.specs.Bits.{bit_at}
use Rattle.card.specs.Files.{sectors_of}
use Rattle.card.specs.Means.{GoodName}
use Rattle.card.specs.Reading.{read}
use Rattle.session.specs.declared.Opened.{Opened}
use Rattle.session.specs.Session.{Session}
use Rattle.session.specs.Views.{present_page, cut_page, present_files}
use Rattle.session.specs.FitMeans.{Fits}
use Rattle.store.specs.Given.{Room}
use Rattle.store.specs.Mount.{mount}
use Rattle.store.specs.Edit.{put}
use Rattle.store.specs.Look.{free}
use Rattle.store.specs.Sync.{sync}
use Rattle.promises_answers.specs.Numbers.{NoEntry}

-- how many of the sectors below n a test holds of
abbrev pub how_many : (ℕ → Bool) → ℕ → ℕ
how_many t n = total (λ i. bit (t i)) n

-- the bit of sector n is clear in a view's map
abbrev pub clear : List ℕ → ℕ → Bool
clear p n = eqb (bit_at p n) 0

-- of a session that fits
pub record FreeSays (free : Session → List ℕ → Room) (s : Opened) (work : List ℕ) : Type 0 where
  -- it is answered
  pub number : (free (Some s) work).number ≡ 0
  -- "Free is to mean clear in both views"
  pub clears : (free (Some s) work).free ≡ how_many (λ n. clear (present_page s (sec work)) n && clear (cut_page s (sec work)) n) s.geo.s
  -- waiting: set in the cut view, clear in the present one
  pub waits : (free (Some s) work).waiting ≡ how_many (λ n. clear (present_page s (sec work)) n && not (clear (cut_page s (sec work)) n)) s.geo.s
  -- "Free, waiting, sectors of present files and F add up to S"
  pub sum : (free (Some s) work).free + (free (Some s) work).waiting + sectors_of (present_files s (sec work)) + g_f s.geo ≡ s.geo.s
  -- "the sectors the next sync releases": after a sync that gives 0 they are free, and nothing waits
  pub synced : (card : List ℕ) → (sync (Some s) card work).answer.number ≡ 0
      → ((free (sync (Some s) card work).session (sync (Some s) card work).work).number ≡ 0)
      × ((free (sync (Some s) card work).session (sync (Some s) card work).work).free ≡ (free (Some s) work).free + (free (Some s) work).waiting)
      × ((free (sync (Some s) card work).session (sync (Some s) card work).work).waiting ≡ 0)
  -- "in a worn session both take it as the table has it": nothing waits
  pub worn : s.worn ≡ true → (free (Some s) work).waiting ≡ 0
  -- where no earlier number of put is due: with fewer sectors free than it takes it gives 8
  pub short : (n d : List ℕ) → s.worn ≡ false → GoodName n → ¬ NoEntry s work n
      → (free (Some s) work).free < sectors_for (length d) → (put (Some s) work n d).answer.number ≡ 8
  -- and of 1 to 512 bytes exactly when none is free
  pub full : (n d : List ℕ) → s.worn ≡ false → GoodName n → ¬ NoEntry s work n → 1 ≤ length d → length d ≤ 512
      → ((put (Some s) work n d).answer.number ≡ 8) ↔ ((free (Some s) work).free ≡ 0)

-- a session starts with the clear bits that reading its card shows, and nothing waiting
abbrev pub MountFree : Type 0
MountFree = (card work : List ℕ) → (mount card work).answer.number ≡ 0
    → ((free (mount card work).session (mount card work).work).free ≡ (read card).free) × ((free (mount card work).session (mount card work).work).waiting ≡ 0)

abbrev pub FreePromise : (Session → List ℕ → Room) → Type 0
FreePromise free = (s : Opened) (work : List ℕ) → Fits s work → FreeSays free s work
