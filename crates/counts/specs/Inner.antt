-- What the contracts of inner functions cite besides the words of the papers: what such a function asks of its caller, and what it answers. Assumes nothing.
use Rattle.std.specs.Prelude.{◌≡◌, List, ℕ, ◌+◌, ◌*◌, ◌≤◌, length}
use Rattle.counts.specs.declared.Geo.{Geo}
use Rattle.counts.specs.Geometry.{g_dir, g_f}

-- a geometry with which code can count
pub record InLimits (g : Geo) : Type 0 where
  pub s : g.s ≤ 65536
  pub t : g.t ≤ 512
  pub d : g.d ≤ 64

-- the same, and all sectors before the data lie in the image
pub record LaidOut (g : Geo) (img : List ℕ) : Type 0 where
  pub s : g.s ≤ 65536
  pub t : g.t ≤ 512
  pub d : g.d ≤ 64
  pub past : g.t + 4 ≤ g_dir g
  pub dir : g_dir g + g.d ≡ g_f g
  pub room : 512 * g_f g ≤ length img
