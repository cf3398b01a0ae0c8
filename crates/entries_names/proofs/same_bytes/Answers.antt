-- By the lengths, by the last bytes, then by all bytes. Assumes nothing.
use native.Mathlib.Omega.{arith}
use Rattle.std.proofs.lemmas.Grind.{common_steps}
use Rattle.words.proofs.EveryMore.{eq_list-eq}
use Rattle.words.proofs.EveryLaws.{eq_list-other}
use Rattle.entries_names.proofs.same_bytes.Goals as goal

pub returns-else-eq : goal.returns-else-eq
returns-else-eq c = grind (arith, common_steps, eq_list-eq, eq_list-other)
