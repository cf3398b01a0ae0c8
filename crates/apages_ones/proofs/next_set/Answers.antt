-- A full word, a full byte, or one bit. Assumes nothing.
use mathlib.Core.Path.{sym, ap, ◌∙◌}
use mathlib.Core.List.{List, []}
use Prim.Native.Nat.{ℕ, ◌/◌}
use native.Mathlib.Omega.{arith}
use lib.ListN.{get_or}
use Rattle.apages.specs.Ones.{word64_at}
use Rattle.apages.proofs.BitLaws.{bit-lt, bit-from}
use Rattle.apages.proofs.OnesLaws.{full-set, bit-set}
use Rattle.apages.proofs.Words64.{word-inside, word-full}
use Rattle.apages_ones.proofs.next_set.Goals as goal

pub bounds-words_of-n : goal.bounds-words_of-n
bounds-words_of-n c = rw c.words_of.ensures (word-inside c.args.p.now c.args.n (omega arith))

pub returns-then-word64 : goal.returns-then-word64
returns-then-word64 c =
    let p = c.args.p.now in
    let e = c.word64.ensures ∙ ap (λ (ws : List (List ℕ)). word64_at (get_or ws (c.args.n / 64) []) 0) c.words_of.ensures in
    (word-full p (λ j. omega (arith, c.type_inv.p j)) c.args.n c.if-n-eq0.true (omega arith) e c.if-word64.true, c.if-n-end.true, λ z. absurd (omega arith))

pub returns-then-p-n : goal.returns-then-p-n
returns-then-p-n c = (full-set _ _ c.if-n-eq0-2.true c.if-p-n.true, c.if-n-end-2.true, λ e. absurd (omega arith))

pub returns-else-n-eq0-2 : goal.returns-else-n-eq0-2
returns-else-n-eq0-2 c =
    let e = c.from.ensures ∙ bit-from c.bit.result ∙ c.bit.ensures in
    (bit-set _ _ e, omega (arith, bit-lt c.args.p.now c.args.n), λ z. sym e ∙ z)
