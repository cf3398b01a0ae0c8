-- The bytes are stored with all of their bits put. Assumes nothing.
use mathlib.Core.Path.{◌≡◌, ◌∙◌}
use Prim.Native.Nat.{◌*◌}
use native.Mathlib.Omega.{arith}
use Rattle.words_sums.specs.Sums.{bit}
use Rattle.apages.proofs.ByteLaws.{bytes_put}
use Rattle.apages.proofs.put_bytes.Goals as goal
use Rattle.apages.proofs.put_bytes.Goals.{then-v, else-v}

pub returns : goal.returns
returns c =
    let a = c.args in
    let e : c.if-v.byte ≡ 255 * bit a.v = elim c.if-v.branch [ then-v w ↦ w.byte-is ∙ rw w.if-v.true | else-v w ↦ w.byte-is ∙ rw w.if-v.false ] in
    bytes_put a.p.now (λ i. omega (arith, c.slice_known-1.given i)) a.j a.m a.v e (c.fill.ensures.after (λ y q. q)) (omega arith)
