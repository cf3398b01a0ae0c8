-- "A session fits a working image when", clause by clause in the paper's order: no test, only words, entries and sectors. Assumes nothing.
use Rattle.std.specs.Prelude.{◌≡◌, true, false, List, ◌⊎◌, ℕ, ◌+◌, ◌*◌, ◌≤◌, ◌<◌, length, get_or}
use Rattle.sectors.specs.Sectors.{sec}
use Rattle.counts.specs.Geometry.{g_n, geo_of, count_of, table_of}
use Rattle.counts.specs.Stamps.{max_tx, table_in}
use Rattle.card.specs.Means.{InLimits, EachStamp, DeadBelow, NoTwoAlike, ZerosFrom, ShowsFile, View}
use Rattle.session.specs.declared.Opened.{Opened}
use Rattle.session.specs.Views.{present_table, cut_view}

-- word i of the working image's table
abbrev pub word : Opened → List ℕ → ℕ → ℕ
word s work i = get_or (table_of s.geo (sec work)) i 0

-- "the cut view takes it as t − 1": the table so taken
abbrev pub cut_words : Opened → List ℕ → List ℕ
cut_words s work = table_in s.geo (cut_view s) (sec work)

-- a file is present in either view of an entry
abbrev pub InEither : Opened → List ℕ → List ℕ → Type 0
InEither s work p = ShowsFile (present_table s (sec work)) p ⊎ ShowsFile (cut_words s work) p

pub record Fits (s : Opened) (work : List ℕ) : Type 0 where
  -- "its geometry is inside the limits, c is below N and t from 1 to 2,147,483,647"
  pub limits : InLimits s.geo
  pub c : s.c.0 < g_n s.geo
  pub t_least : 1 ≤ s.t.0
  pub t_most : s.t.0 ≤ max_tx
  -- "lengths and sector 0 agree (count c + 1)"; its rest is 0
  pub sized : length work ≡ 512 * s.geo.s
  pub count : count_of (sec work) ≡ s.c.0 + 1
  pub geo : geo_of (sec work) ≡ s.geo
  pub head_rest : ZerosFrom 16 (sec work 0)
  -- "table word c is t − 1 (worn: t and the word are 2,147,483,647)"
  pub word_c : s.worn ≡ false → word s work s.c.0 + 1 ≡ s.t.0
  pub worn_c : s.worn ≡ true → (s.t.0 ≡ max_tx) × (word s work s.c.0 ≡ max_tx)
  -- "every table word is at most 2,147,483,647, words past c are 0"
  pub words : (i : ℕ) → i < g_n s.geo → word s work i ≤ max_tx
  pub past : (i : ℕ) → s.c.0 < i → i < g_n s.geo → word s work i ≡ 0
  -- "each view passes the entry, index and bitmap rules"
  pub present : View s.geo (present_table s (sec work)) work
  pub cut : View s.geo (cut_words s work) work
  -- "no name is present in either view of two entries"
  pub alone : NoTwoAlike s.geo work (InEither s work)
  -- "stamps dead in the present view have cc below c, and stamps at c have txc at most t"
  pub dead : EachStamp s.geo work (DeadBelow s.c.0 (present_table s (sec work)))
  pub at_c : EachStamp s.geo work (λ x. x.cc.0 ≡ s.c.0 → x.txc.0 ≤ s.t.0)
