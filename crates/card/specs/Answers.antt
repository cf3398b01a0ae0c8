-- "Numbers given back": the number of each refusal, and what a call that answers or refuses gives back. Assumes nothing.
use Rattle.std.specs.Prelude.{ℕ, Option, Some, None, Result, Ok, Err}
use Rattle.card.specs.declared.Answer.{Answer}
use Rattle.card.specs.declared.Contents.{Contents}
use Rattle.card.specs.declared.Line.{Line}
use Rattle.card.specs.declared.Refusal.{Refusal}
use Rattle.card.specs.declared.Refusal.TheVariants.{Shape, Unsound, CountsUsed, Closed, BadName, NoFile, NoEntry, NoRoom, Worn, ShortOutput, NoSector}
use Rattle.card.specs.Files.{no_line}
use Rattle.card.specs.Plan.{refused, done, Lined, Report}

-- "no.": the number of each refusal in the table
abbrev pub number_of : Refusal → ℕ
number_of Shape = 1
number_of Unsound = 2
number_of CountsUsed = 3
number_of Closed = 4
number_of BadName = 5
number_of NoFile = 6
number_of NoEntry = 7
number_of NoRoom = 8
number_of Worn = 9
number_of ShortOutput = 10
number_of NoSector = 11

-- the number alone: 0 for what is done
abbrev pub number_in : {A : Type 0} → Result A Refusal → ℕ
number_in (Ok x) = 0
number_in (Err r) = number_of r

-- number and count of a call: "A refusal returns its number and a zero count"
abbrev pub counted : Result ℕ Refusal → Answer
counted (Ok n) = done n
counted (Err r) = refused (number_of r)

-- the same of a call that counts 0
abbrev pub uncounted : Result Unit Refusal → Answer
uncounted (Ok u) = done 0
uncounted (Err r) = refused (number_of r)

-- what reading a card gives; zeros beside a refusal's number
abbrev pub reported_of : Result Contents Refusal → Report
reported_of (Ok x) = record { number = 0; c = x.c; n = x.n; files = x.files; free = x.free }
reported_of (Err r) = record { number = number_of r; c = record { 0 = 0 }; n = 0; files = 0; free = 0 }

-- the line at a position, with count 1; none, with count 0
abbrev pub lined_of : Result (Option Line) Refusal → Lined
lined_of (Ok (Some l)) = record { answer = done 1; line = l }
lined_of (Ok None) = record { answer = done 0; line = no_line }
lined_of (Err r) = record { answer = refused (number_of r); line = no_line }
