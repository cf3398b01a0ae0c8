-- What the contracts of inner functions cite besides the words of the papers: what such a function asks of its caller, and what it answers. Assumes nothing.
use Rattle.std.specs.Prelude.{◌≡◌, Bool, true, false, List, [], ℕ, ◌/◌, ◌%◌, ◌≤◌, ◌<◌, length, get_or}
use Rattle.entries.specs.Entries.{name_of}
use Rattle.entries_names.specs.Inner.{hash_of}
use Rattle.directory.specs.Directory.{gone}
use Rattle.apages.specs.Bits.{bit_at}

-- a name has two of 1,024 marks
pub record Marked (m n : List ℕ) : Type 0 where
  pub low : bit_at m (hash_of n % 1024) ≡ 1
  pub high : bit_at m (hash_of n / 1024 % 1024) ≡ 1

-- a name is marked: it was not before if the answer is true, and what was marked still is
pub record Marking (m m' n : List ℕ) (r : Bool) : Type 0 where
  pub new : r ≡ true → ¬ Marked m n
  pub here : Marked m' n
  pub kept : (x : List ℕ) → Marked m x → Marked m' x

-- the names of the entries from i on that show a file are marked
abbrev pub Known : List ℕ → List ℕ → List (List ℕ) → ℕ → List ℕ → Type 0
Known tp tc es i m = (j : ℕ) → i ≤ j → j < length es → gone tp tc (get_or es j []) ≡ false → Marked m (name_of (get_or es j []))
