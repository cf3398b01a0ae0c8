-- What the reading program prints of a card, byte by byte. Assumes nothing.
use Rattle.std.specs.Prelude.{ℕ, zero, suc, ◌==◌, List, [], ◌∷◌, ◌++◌, length, take, codes, nat_le, if◌then◌else◌}
use Rattle.std.specs.Fmt.{decimal}
use Rattle.card.specs.declared.Line.{Line}
use Rattle.card.specs.Plan.{Report}
use Rattle.card.specs.Reading.{read, read_line}

-- the byte for a space, and the one that ends a line
abbrev pub space : ℕ
space = 32

abbrev pub line_end : ℕ
line_end = 10

-- a number's digits, and the byte after them
abbrev pub digits_and : ℕ → ℕ → List ℕ
digits_and n after = decimal n ++ after ∷ []

-- the line of a refusal
abbrev pub refusal_line : ℕ → List ℕ
refusal_line n = codes "refused " ++ digits_and n line_end

-- the first n bytes of a name, and none of a shorter one
abbrev pub name_bytes : List ℕ → ℕ → List ℕ
name_bytes name n = if nat_le n (length name) then take n name else []

-- a file: name, bytes, start, sectors
abbrev pub file_line : Line → List ℕ
file_line l = name_bytes l.name l.size ++ (space ∷ [] ++ digits_and l.run.bytes space ++ digits_and l.run.start.0 space ++ digits_and l.run.sectors line_end)

-- the first n files that a card shows
abbrev pub file_lines : List ℕ → ℕ → List ℕ
file_lines img zero = []
file_lines img (suc n) = file_lines img n ++ file_line (read_line img n).line

-- C and N
abbrev pub counts_line : Report → List ℕ
counts_line r = codes "counts " ++ digits_and r.c.0 space ++ codes "of " ++ digits_and r.n line_end

-- how many files are shown
abbrev pub files_line : Report → List ℕ
files_line r = codes "files " ++ digits_and r.files line_end

-- the clear bits of the shown bitmap
abbrev pub free_line : Report → List ℕ
free_line r = codes "free " ++ digits_and r.free line_end

-- what is read of a sound card
abbrev pub card_lines : List ℕ → Report → List ℕ
card_lines img r = counts_line r ++ files_line r ++ file_lines img r.files ++ free_line r

-- the whole report: the line of a refusal, or what is read of a sound card
abbrev pub report_lines : List ℕ → List ℕ
report_lines img = if (read img).number == 0 then card_lines img (read img) else refusal_line (read img).number
