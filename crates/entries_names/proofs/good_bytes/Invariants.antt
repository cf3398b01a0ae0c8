-- The answer is what was seen so far, and that for what is left. Assumes nothing.
use mathlib.Core.Path.{◌≡◌}
use mathlib.Core.Bool.{◌&&◌}
use lib.ListN.{drop}
use Rattle.entries.specs.Entries.{good_byte}
use Rattle.words.specs.Lists.{every}
use Rattle.entries_names.proofs.good_bytes.Given as goal

abbrev pub invariant-loop-b : goal.invariant-loop-b
invariant-loop-b l = every good_byte l.s ≡ (l.ok && every good_byte (drop l.b-index l.s))
