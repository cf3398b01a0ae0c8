-- Which entry put and remove use, and where put's content goes: "A name present in either view of an entry uses that entry; otherwise the lowest entry absent in
-- both views. Content goes to the lowest run of sectors free in both views before the call"; with a goal, "the first fitting run at or after it, else the lowest". Assumes nothing.
use Rattle.std.specs.Prelude.{◌≡◌, List, [], ◌⊎◌, ℕ, ◌+◌, ◌%◌, ◌≤◌, ◌<◌, length, get_or}
use Rattle.sectors.specs.declared.Sector.{Sector}
use Rattle.sectors.specs.Sectors.{sec}
use Rattle.entries.specs.declared.Version.TheVariants.{Absent}
use Rattle.entries.specs.Entries.{shown, sectors_for}
use Rattle.directory.specs.Directory.{entries_of}
use Rattle.apages.specs.Bits.{bit_at}
use Rattle.card.specs.Plan.{do_it}
use Rattle.session.specs.declared.Opened.{Opened}
use Rattle.session.specs.Views.{present_table, cut_table, present_page, cut_page}
use Rattle.store.specs.Edit.{put_plan, remove_plan}
use Rattle.promises_answers.specs.Numbers.{Shows}

-- entry i of a session's working image
abbrev pub entry_in : Opened → List ℕ → ℕ → List ℕ
entry_in s work i = get_or (entries_of s.geo (sec work)) i []

-- it shows the name in either view
abbrev pub HasName : Opened → List ℕ → List ℕ → ℕ → Type 0
HasName s work n i = Shows (present_table s (sec work)) n (entry_in s work i) ⊎ Shows (cut_table s (sec work)) n (entry_in s work i)

-- it is absent in both views
abbrev pub Vacant : Opened → List ℕ → ℕ → Type 0
Vacant s work i = (shown (present_table s (sec work)) (entry_in s work i) ≡ Absent) × (shown (cut_table s (sec work)) (entry_in s work i) ≡ Absent)

-- the entry that put of n uses is j
pub record PlaceIs (s : Opened) (work n : List ℕ) (j : ℕ) : Type 0 where
  pub inside : j < length (entries_of s.geo (sec work))
  -- the name's own entry
  pub own : (i : ℕ) → i < length (entries_of s.geo (sec work)) → HasName s work n i → HasName s work n j
  -- or, where no entry has the name, the lowest that is vacant
  pub vacant : ¬ HasName s work n j → Vacant s work j
  pub lowest : ¬ HasName s work n j → (i : ℕ) → i < j → ¬ Vacant s work i

-- a run that fits: k sectors of the card from t on lie in one page, "no run crosses out of one", and are free in both views
abbrev pub FreeFrom : Opened → List ℕ → ℕ → ℕ → Type 0
FreeFrom s work k t =
    (t + k ≤ s.geo.s) × (t % 4096 + k ≤ 4096) × ((n : ℕ) → t ≤ n → n < t + k → (bit_at (present_page s (sec work)) n ≡ 0) × (bit_at (cut_page s (sec work)) n ≡ 0))

-- the run that k sectors with a goal go to starts at a: "the first fitting run at or after it, else the lowest"
pub record GoesTo (s : Opened) (work : List ℕ) (k goal a : ℕ) : Type 0 where
  pub fitting : FreeFrom s work k a
  pub first : (t : ℕ) → goal ≤ t → FreeFrom s work k t → (goal ≤ a) × (a ≤ t)
  pub lowest : a < goal → (t : ℕ) → FreeFrom s work k t → a ≤ t

abbrev pub PutPlaces : Type 0
PutPlaces = (s : Opened) (work n d : List ℕ) (goal j : ℕ) (a : Sector) → put_plan s work n d goal ≡ do_it j a
    → PlaceIs s work n j × (1 ≤ sectors_for (length d) → GoesTo s work (sectors_for (length d)) goal a.0)

abbrev pub RemovePlaces : Type 0
RemovePlaces = (s : Opened) (work n : List ℕ) (j : ℕ) (a : Sector) → remove_plan s work n ≡ do_it j a
    → (j < length (entries_of s.geo (sec work))) × Shows (present_table s (sec work)) n (entry_in s work j)
