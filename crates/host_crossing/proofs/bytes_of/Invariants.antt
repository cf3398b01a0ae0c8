-- The words so far, written over the zeros. Assumes nothing.
use Rattle.std.proofs.Common.{◌≡◌, take, replicate}
use Rattle.std.specs.List.{flat_map}
use Rattle.words.specs.Lists.{splice}
use Rattle.words.specs.Bytes.{word_bytes}
use Rattle.host_crossing.proofs.bytes_of.Given as goal

abbrev pub invariant-loop-i : goal.invariant-loop-i
invariant-loop-i g l = l.b ≡ splice (replicate g.row.N 0) 0 (flat_map word_bytes (take l.i l.words))
