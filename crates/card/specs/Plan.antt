-- "Numbers given back": a call's tests in their order, and what it answers. Assumes nothing.
use Rattle.std.specs.Prelude.{Bool, true, false, List, ℕ, Option, Some, None}
use Rattle.sectors.specs.declared.Sector.{Sector}
use Rattle.counts.specs.declared.CrashCount.{CrashCount}
use Rattle.card.specs.declared.Answer.{Answer}
use Rattle.card.specs.declared.Line.{Line}

-- a call's plan: the number of the first refusal, in the order of the text, or what to do (an entry, and a first sector)
pub data Plan : Type 0 where
  refuse : ℕ → Plan
  do_it : ℕ → Sector → Plan

-- go through, with nothing to choose
abbrev pub go_ahead : Plan
go_ahead = do_it 0 (record { 0 = 0 })

-- go through with entry j, and no sector
abbrev pub do_at : ℕ → Plan
do_at j = do_it j (record { 0 = 0 })

-- number k where a test fails
unfoldable pub guard : ℕ → Bool → Plan → Plan
guard k true p = p
guard k false p = refuse k

-- number k where a search finds nothing
unfoldable pub need : ℕ → Option ℕ → (ℕ → Plan) → Plan
need k None f = refuse k
need k (Some i) f = f i

unfoldable pub ended : {A : Type 0} → Plan → (ℕ → A) → (ℕ → Sector → A) → A
ended (refuse k) f h = f k
ended (do_it j a) f h = h j a

-- "A refusal returns its number and a zero count"
unfoldable pub refused : ℕ → Answer
refused k = record { number = k; count = 0 }

-- 0, "done", with a count
unfoldable pub done : ℕ → Answer
done n = record { number = 0; count = n }

-- what reading a card gives: the number, C, N, the file count and the clear bits shown
pub record Report : Type 0 where
  pub number : ℕ
  pub c : CrashCount
  pub n : ℕ
  pub files : ℕ
  pub free : ℕ

-- the line at a position; the count is 1 where there is one, else 0
pub record Lined : Type 0 where
  pub answer : Answer
  pub line : Line

-- what a call leaves: its answer, and the one image that it may change
pub record Changed : Type 0 where
  pub answer : Answer
  pub image : List ℕ

-- what get leaves: its answer and the lent output
pub record Got : Type 0 where
  pub answer : Answer
  pub out : List ℕ

-- what list leaves: its answer and the lent table of lines
pub record Listed : Type 0 where
  pub answer : Answer
  pub lines : List Line
