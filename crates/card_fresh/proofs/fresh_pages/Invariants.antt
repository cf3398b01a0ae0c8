-- The loop's invariant: what is left to write makes the pages of all pairs. Assumes nothing.
use mathlib.Core.Path.{◌≡◌}
use Prim.Native.Nat.{◌-◌}
use lib.ListN.{length}
use Rattle.counts.specs.Geometry.{g_p}
use Rattle.card.specs.Make.{fresh_pages}
use Rattle.card_fresh.proofs.fresh_pages.Given as goal

abbrev pub invariant-loop-p : goal.invariant-loop-p
invariant-loop-p l = (fresh_pages l.g l.p (g_p l.g - l.p) l.card ≡ fresh_pages l.g 0 (g_p l.g) l.initial.card) × (length l.card ≡ length l.initial.card)
