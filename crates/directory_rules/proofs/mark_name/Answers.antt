-- Two marks, one after the other. Assumes nothing.
use mathlib.Core.Path.{ap}
use Prim.Native.Nat.{ℕ, ◌/◌, ◌%◌}
use Rattle.entries.specs.Entries.{name_of}
use Rattle.directory_rules.proofs.Marks.{marking}
use Rattle.directory_rules.proofs.mark_name.Goals as goal

pub returns : goal.returns
returns c = let h = c.hash_at-h.ensures in
    let x = c.mark-low.ensures in
    let y = c.mark-high.ensures in
    marking c.args.marks.now (name_of c.args.p.now) c.requires.0 (ap (λ (x : ℕ). x % 1024) h) (ap (λ (x : ℕ). x / 1024 % 1024) h) x.0 x.1 y.0 y.1
