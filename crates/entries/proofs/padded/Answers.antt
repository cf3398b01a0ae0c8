-- The name, and what is left of the zeros. Assumes nothing.
use Prim.Native.Nat.{ℕ}
use lib.ListN.{length}
use Rattle.std.proofs.lemmas.List.{drop-replicate}
use Rattle.words.specs.Lists.{pad}
use Rattle.entries.proofs.padded.Goals as goal

pub returns : goal.returns
unfolding pad
returns c = rw (c.copy_from_slice.ensures.after, drop-replicate {X = ℕ} (length c.args.name.now) 32 0)
