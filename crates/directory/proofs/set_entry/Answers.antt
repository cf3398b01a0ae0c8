-- `directory::set_entry` meets its contract: a part that was lent and came back is a splice, at the entry's place. Assumes nothing.
use mathlib.Core.Path.{◌≡◌, sym, ap, ◌∙◌}
use Prim.Native.Nat.{ℕ}
use native.Mathlib.Omega.{arith}
use lib.ListN.{length}
use Rattle.directory.proofs.DirectoryLaws.{set_entry-flat}
use Rattle.entries.specs.Entries.{entry_bytes}
use Rattle.words.specs.Lists.{splice}
use Rattle.words.proofs.SpliceLaws.{part-back}
use Rattle.directory.proofs.set_entry.Goals as goal

pub returns : goal.returns
returns c =
    let a = c.args in
    let e = c.fill_entry.ensures in
    let l : length (entry_bytes a.e) ≡ 128 = omega (arith, ap length e) in
    rw e (part-back _ _ _ _ (omega arith) (omega arith) (omega arith)) ∙ ap (λ (n : ℕ). splice a.img.now n (entry_bytes a.e)) c.place_of-at.ensures
    ∙ sym (set_entry-flat a.g a.j (entry_bytes a.e) a.img.now c.requires.1 l)
