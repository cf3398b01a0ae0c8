-- The loop's invariant: the groups before p are written. Assumes nothing.
use mathlib.Core.Path.{◌≡◌}
use lib.ListN.{length}
use Rattle.words.specs.Lists.{pad}
use Rattle.card.specs.Make.{fresh_groups}
use Rattle.card_fresh.proofs.fresh_index.Given as goal

abbrev pub invariant-loop-p : goal.invariant-loop-p
invariant-loop-p l = (length l.s ≡ 512) × (l.s ≡ pad 512 (fresh_groups l.g 0 l.p))
