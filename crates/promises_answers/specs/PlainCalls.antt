-- Demand 2, that the calls answer as a plain list of names with contents does, stated: names, get, list, free and reading. Assumes nothing.
use Rattle.std.specs.Prelude.{◌≡◌, cond, ◌≢◌, ℕ, ◌+◌, ◌*◌, ◌≤◌, leb, length, drop, Some}
use mathlib.Core.List.{List, [], ◌∷◌, ◌++◌, Memᴰ}
use Rattle.std.proofs.Math.Option.{Option, none, some}
use Rattle.words.specs.Lists.{splice}
use Rattle.sectors.specs.Sectors.{sec}
use Rattle.counts.specs.Geometry.{g_n, g_f, geo_of, count_of}
use Rattle.card.specs.declared.Line.{Line}
use Rattle.card.specs.Plan.{refused, done, Got}
use Rattle.card.specs.Files.{sectors_of}
use Rattle.card.specs.Means.{InLimits, GoodName, Sound}
use Rattle.card.specs.Reading.{files_shown, read, read_list, read_get}
use Rattle.session.specs.declared.Opened.{Opened}
use Rattle.session.specs.Views.{present_files}
use Rattle.session.specs.FitMeans.{Fits}
use Rattle.store.specs.Look.{get, list, free}
use Rattle.promises_answers.specs.PlainList.{Item, line_name, lookup, shown_by, shown_in}

-- "no two alike"
abbrev pub NoTwoAlike : List Item → Type 0
NoTwoAlike [] = Unit
NoTwoAlike (x ∷ xs) = ((y : Item) → Memᴰ y xs → x.name ≢ y.name) × NoTwoAlike xs

-- "good names, no two alike"
pub record Names (l : List Item) : Type 0 where
  pub good : (x : Item) → Memᴰ x l → GoodName x.name
  pub alone : NoTwoAlike l

-- get of a good name, from what the list has under it: 6 for nothing, 10 where the output is shorter, else the content over its first bytes
unfoldable pub plain_get : Option (List ℕ) → List ℕ → Got
plain_get none out = record { answer = refused 6; out = out }
plain_get (some d) out =
    cond (leb (length d) (length out)) (record { answer = done (length d); out = splice out 0 d }) (record { answer = refused 10; out = out })

-- "one line a file, in entry order: name, bytes, ..": the lines tell the list's names and lengths
pub record Told (x : Item) (l : Line) : Type 0 where
  pub name : line_name l ≡ x.name
  pub size : l.size ≡ length x.name
  pub bytes : l.run.bytes ≡ length x.content

pub data Lines : List Item → List Line → Type 0 where
  none_left : Lines [] []
  one_more : {x : Item} {l : Line} {xs : List Item} {ls : List Line} → Told x l → Lines xs ls → Lines (x ∷ xs) (l ∷ ls)

-- a session that fits
pub record SessionShows (s : Opened) (work : List ℕ) : Type 0 where
  pub names : Names (shown_in (Some s) work)
  pub gets : (n out : List ℕ) → GoodName n → get (Some s) work n out ≡ plain_get (lookup n (shown_in (Some s) work)) out
  pub tells : Lines (shown_in (Some s) work) (present_files s (sec work))
  pub lists : (lines : List Line) → length (shown_in (Some s) work) ≤ length lines
      → list (Some s) work lines ≡ record { answer = done (length (shown_in (Some s) work)); lines = present_files s (sec work) ++ drop (length (shown_in (Some s) work)) lines }
  -- "Free, waiting, sectors of present files and F add up to S"
  pub frees : ((free (Some s) work).number ≡ 0)
      × ((free (Some s) work).free + (free (Some s) work).waiting + sectors_of (present_files s (sec work)) + g_f s.geo ≡ s.geo.s)

-- a card of the right shape that is sound
pub record CardShows (card : List ℕ) : Type 0 where
  pub names : Names (shown_by card)
  pub gets : (n out : List ℕ) → GoodName n → read_get card n out ≡ plain_get (lookup n (shown_by card)) out
  pub tells : Lines (shown_by card) (files_shown card)
  pub lists : (lines : List Line) → length (shown_by card) ≤ length lines
      → read_list card lines ≡ record { answer = done (length (shown_by card)); lines = files_shown card ++ drop (length (shown_by card)) lines }
  -- "it gives C, N, the file count and the clear bits shown"
  pub counts : ((read card).number ≡ 0) × ((read card).c.0 ≡ count_of (sec card)) × ((read card).n ≡ g_n (geo_of (sec card)))
      × ((read card).files ≡ length (shown_by card)) × ((read card).free + sectors_of (files_shown card) + g_f (geo_of (sec card)) ≡ (geo_of (sec card)).s)

abbrev pub AllShow : Type 0
AllShow = ((s : Opened) (work : List ℕ) → Fits s work → SessionShows s work)
    × ((card : List ℕ) → InLimits (geo_of (sec card)) → length card ≡ 512 * (geo_of (sec card)).s → Sound card → CardShows card)
