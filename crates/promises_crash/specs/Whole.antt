-- The calls that only look, whole: what reading a card, and get, list and free of a session, answer if what is shown is a plain list. Stated. Assumes nothing.
use Rattle.std.specs.Prelude.{◌≡◌, true, List, [], ◌∷◌, ◌⊎◌, ℕ, ◌+◌, ◌≤◌, ◌<◌, length, take, drop, Some}
use Rattle.sectors.specs.Sectors.{sec}
use Rattle.counts.specs.Geometry.{g_n, g_f, geo_of, count_of}
use Rattle.entries.specs.Entries.{sectors_for}
use Rattle.card.specs.declared.Line.{Line}
use Rattle.card.specs.Plan.{refused, done, Got, Listed}
use Rattle.card.specs.Means.{GoodName}
use Rattle.card.specs.Reading.{read, read_list, read_get}
use Rattle.session.specs.declared.Opened.{Opened}
use Rattle.store.specs.Look.{get, list, free}
use Rattle.promises_answers.specs.PlainList.{Item, lookup, shown_in}
use Rattle.promises_answers.specs.PlainCalls.{Names, plain_get, Lines}
use Rattle.promises_crash.specs.History.{Left, World, Call, pending_in, Reach, is_sync}

-- the sectors that the contents of a list take
unfoldable pub sectors_in : List Item → ℕ
sectors_in [] = 0
sectors_in (x ∷ xs) = sectors_for (length x.content) + sectors_in xs

-- get of any name, from the list: 5 for a name outside the rule, else by what the list has under it: 6 for nothing, 10 for a short output
pub record GetsAs (m : List Item) (n out : List ℕ) (r : Got) : Type 0 where
  pub bad : ¬ GoodName n → r ≡ record { answer = refused 5; out = out }
  pub good : GoodName n → r ≡ plain_get (lookup n m) out

-- list over a lent table of lines: 10 for a short one; else its count is the list's, its first lines tell the list in order, and later lines stay
pub record ListsAs (m : List Item) (lines : List Line) (r : Listed) : Type 0 where
  pub short : length lines < length m → r ≡ record { answer = refused 10; lines = lines }
  pub answer : length m ≤ length lines → r.answer ≡ done (length m)
  pub told : length m ≤ length lines → Lines m (take (length m) r.lines)
  pub rest : length m ≤ length lines → drop (length m) r.lines ≡ drop (length m) lines

-- a card that shows m
pub record ReadsAs (card : List ℕ) (m : List Item) : Type 0 where
  pub names : Names m
  -- "it gives C, N, the file count and the clear bits shown"
  pub number : (read card).number ≡ 0
  pub count : (read card).c.0 ≡ count_of (sec card)
  pub most : (read card).n ≡ g_n (geo_of (sec card))
  pub files : (read card).files ≡ length m
  pub free : (read card).free + sectors_in m + g_f (geo_of (sec card)) ≡ (geo_of (sec card)).s
  pub gets : (n out : List ℕ) → GetsAs m n out (read_get card n out)
  pub lists : (lines : List Line) → ListsAs m lines (read_list card lines)

-- a session that shows m
pub record LooksAs (s : Opened) (work : List ℕ) (m : List Item) : Type 0 where
  pub names : Names m
  pub gets : (n out : List ℕ) → GetsAs m n out (get (Some s) work n out)
  pub lists : (lines : List Line) → ListsAs m lines (list (Some s) work lines)
  pub number : (free (Some s) work).number ≡ 0
  -- "Free, waiting, sectors of present files and F add up to S"
  pub frees : (free (Some s) work).free + (free (Some s) work).waiting + sectors_in m + g_f s.geo ≡ s.geo.s

-- ---- demand 3, joined with the reading calls: after any history and any cut they answer from the files of the latest moment, or, inside a sync or
-- unmount, from those that the session showed at its start

abbrev pub CutsReadWhole : Type 0
CutsReadWhole = (w : World) → Reach w →
    ((card : List ℕ) → Left w.pending (length w.card) card → ReadsAs card w.last)
    × ((c : Call) (n : ℕ) (card : List ℕ) → Left (pending_in c n w) (length w.card) card
    → ReadsAs card w.last ⊎ ((is_sync c ≡ true) × ReadsAs card (shown_in w.session w.work)))
