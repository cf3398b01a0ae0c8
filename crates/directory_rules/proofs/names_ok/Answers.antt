-- The loop's invariant: the entries passed stand apart, and their names are marked. Assumes nothing.
use mathlib.Core.Path.{◌≡◌, refl, sym}
use mathlib.Core.List.{[]}
use Prim.Native.Nat.{◌+◌, ◌-◌, ◌*◌}
use native.Mathlib.Omega.{arith}
use borrow.Author.Rules.{rules}
use Rattle.words.proofs.EveryLaws.{pair_end}
use Rattle.sectors.specs.Sectors.{sec}
use Rattle.directory.specs.Directory.{entries_of}
use Rattle.directory.proofs.DirectoryLaws.{entries-lt, entries-le}
use Rattle.directory_rules.proofs.Marks.{known-end, down-go, down-stop}
use Rattle.directory_rules.proofs.names_ok.Goals as goal

pub loop-i-init : goal.loop-i-init
loop-i-init c =
    let a = c.args in
    let end = entries-le a.card.geo a.card.bytes.now (4 * a.card.geo.d) (omega arith) in
    (search rules, sym (pair_end _ _ [] _ end refl), known-end _ _ (entries_of a.card.geo (sec a.card.bytes.now)) _ _ end)

pub returns-then-not-alone : goal.returns-then-not-alone
returns-then-not-alone c =
    let a = c.args in
    let i = c.loop-i.i in
    let next : i ≡ i - 1 + 1 = omega (arith, c.loop-i-test.true) in
    down-stop _ (entries_of a.card.geo (sec a.card.bytes.now)) [] (i - 1) _ next (entries-lt a.card.geo a.card.bytes.now (i - 1) (omega arith)) c.alone.ensures.0 c.if-not-alone.true

pub loop-i-preserved : goal.loop-i-preserved
loop-i-preserved c =
    let a = c.args in
    let i = c.loop-i.i in
    let next : i ≡ i - 1 + 1 = omega (arith, c.loop-i-test.true) in
    let up = down-go _ (entries_of a.card.geo (sec a.card.bytes.now)) [] (i - 1) _ next (entries-lt a.card.geo a.card.bytes.now (i - 1) (omega arith)) c.alone.ensures.0 c.if-not-alone.false c.loop-i.invariant.1 in
    (search rules, up, c.alone.ensures.1)
