-- What the contracts of inner functions cite besides the words of the papers: what such a function asks of its caller, and what it answers. Assumes nothing.
use Rattle.std.specs.Prelude.{List, ℕ, ◌+◌, ◌*◌}
use Rattle.std.specs.declared.slice.ChunksExact.{ChunksExact}
use Rattle.std.specs.Iterator.{AlwaysYields}
use Rattle.std.specs.Slice.Iter.{chunks_exact_steps}
use Rattle.counts.specs.declared.Geo.{Geo}
use Rattle.counts.specs.Geometry.{g_dir}

-- where entry j starts in an image
abbrev pub place_of : Geo → ℕ → ℕ
place_of g j = 512 * (g_dir g) + 128 * j

-- an iterator gives these entries, in order, and no more
pub record Gives (it : ChunksExact ℕ) (es : List (List ℕ)) : Type 0 where
  pub yields : AlwaysYields chunks_exact_steps (λ p. p.now) it es
