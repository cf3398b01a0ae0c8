-- What the contracts of inner functions cite besides the words of the papers: what such a function asks of its caller, and what it answers. Assumes nothing.
use Rattle.std.specs.Prelude.{◌≡◌, Bool, not, List, [], ◌∷◌, ℕ, Option, Some, None, drop}
use Rattle.words.specs.Bytes.{word_at}
use Rattle.entries.specs.Entries.{shown, is_absent, name_bytes}
use Rattle.card.specs.declared.Line.{Line}
use Rattle.card.specs.Files.{files_of, run_of}
use Rattle.card_files.specs.declared.Next.{Next}

-- whether an entry shows a file
abbrev pub shows : List ℕ → List ℕ → Bool
shows tab p = not (is_absent (shown tab p))

-- the line of an entry
abbrev pub line_shown : List ℕ → List ℕ → Line
line_shown tab p = record { size = word_at p 8; name = name_bytes p; run = run_of (shown tab p) }

-- the first line of the files that the entries from j on show, and the entry from which the rest of them is shown
abbrev pub IsNext : List ℕ → List (List ℕ) → ℕ → Option Next → Type 0
IsNext tab es j None = files_of tab (drop j es) ≡ []
IsNext tab es j (Some n) = files_of tab (drop j es) ≡ n.line ∷ files_of tab (drop n.after es)
