-- A sector that is written as it is stays so. Assumes nothing.
use mathlib.Core.Path.{◌≡◌, sym, ap, ◌∙◌}
use Prim.Native.Nat.{ℕ}
use borrow.Author.Rules.{rules}
use Rattle.sectors.specs.Sectors.{sec, set_sec}
use Rattle.sectors.proofs.SectorLaws.{set_sec-own}
use Rattle.apages_bitmap.proofs.copy_page.Goals as goal

pub returns-then-eq : goal.returns-then-eq
returns-then-eq c =
    let s = c.args in
    let e : s.from.0 ≡ s.to.0 = search rules in
    sym (ap (λ (i : ℕ). set_sec s.img.now s.to.0 (sec s.img.now i)) e ∙ set_sec-own s.img.now s.to.0)
