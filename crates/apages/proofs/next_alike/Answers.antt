-- A whole byte, the rest of one, or one sector. Assumes nothing.
use mathlib.Core.Path.{refl}
use mathlib.Core.Logic.{⊎_elim, inl, inr}
use Prim.Native.Nat.{◌-◌, ◌/◌, ◌%◌, ◌^◌}
use native.Mathlib.Omega.{arith}
use borrow.Author.Rules.{rules}
use lib.Bits.{bit_and, bit_or}
use lib.ListN.{get_or}
use Rattle.apages.proofs.AlikeLaws.{byte-alike, part-alike, one_alike}
use Rattle.apages.proofs.next_alike.Goals as goal

pub returns-then-x : goal.returns-then-x
returns-then-x c = (search rules, c.if-n-end.true, byte-alike _ _ _ _ c.if-n-eq0.true refl (⊎_elim inl (λ w. inr w.1) c.if-x.either))

pub returns-then-y-mask : goal.returns-then-y-mask
returns-then-y-mask c =
    let a = c.args in
    let m = c.rest_of_byte-m.result in
    let mask = 255 / 2 ^ (8 - m) in
    let y = bit_and (bit_or (get_or a.p.now (a.n / 8) 0) (get_or a.q.now (a.n / 8) 0) / 2 ^ (a.n % 8)) mask in
    (search rules, search rules, part-alike a.p.now a.q.now a.n m (omega arith) y mask refl refl (⊎_elim inl (λ w. inr w.1) c.if-y-mask.either) (omega arith))

pub returns-else-y-mask : goal.returns-else-y-mask
returns-else-y-mask c = (search rules, search rules, one_alike _ _ _)
