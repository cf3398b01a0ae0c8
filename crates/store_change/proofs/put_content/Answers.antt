-- The content and the zeros behind it are one splice. Assumes nothing.
use mathlib.Core.Path.{◌≡◌, ap}
use mathlib.Core.List.{List, ◌++◌}
use Prim.Native.Nat.{ℕ, ◌+◌, ◌-◌, ◌*◌, ◌≤◌}
use native.Mathlib.Omega.{arith}
use borrow.Rule.Slice.PartMut.{put_mid}
use lib.ListN.{length, drop, replicate, length-take, length-drop, length-append, length-replicate}
use Rattle.std.proofs.lemmas.Grind.{common_steps}
use Rattle.words.specs.Lists.{pad}
use Rattle.words.proofs.SpliceLaws.{part-back}
use Rattle.entries.specs.declared.Run.{Run}
use Rattle.store.specs.Edit.{put_content}
use Rattle.store_change.proofs.put_content.Goals as goal

-- the front of the room that was lent came back as the content, and the rest as zeros
zeroed : (d room : List ℕ) (m : ℕ) {n : ℕ} {zs : List ℕ} → length room ≡ n → length d ≤ n → zs ≡ replicate m 0 → m + length d ≡ n
    → put_mid (length d) (length (d ++ drop (length d) room) - length d) (d ++ drop (length d) room) zs ≡ d ++ replicate (n - length d) 0
zeroed d room m l h e k = grind (arith, common_steps)

-- and the room is the sectors of the run
filled : (r : Run) (d img room : List ℕ) {at : ℕ} → room ≡ d ++ replicate (512 * r.sectors - length d) 0 → length d ≤ 512 * r.sectors
    → 512 * (r.start.0 + r.sectors) ≤ length img → at ≡ 512 * r.start.0 → put_mid at (at + 512 * r.sectors - at) img room ≡ put_content r d img
unfolding put_content pad
filled r d img room e h k p =
    rw (e, p) (part-back img _ _ _ (omega arith) (omega arith) (omega (arith, length-append {A = ℕ}, length-replicate {A = ℕ})))

pub returns : goal.returns
returns c =
    let (h, k) = c.requires in
    let after = c.copy_from_slice.ensures.after in
    rw after (filled _ _ _ _ (zeroed _ _ _ (simp (length-take, length-drop) (omega arith)) h (c.fill.ensures.after (λ y e. e)) (simp (length-take, length-drop, length-append) (omega (arith, ap length after)))) h k c.offset-at.ensures)
