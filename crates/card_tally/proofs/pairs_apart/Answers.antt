-- The loop's invariant: no two runs of the entries passed meet, and the files of those before `rest` start at `low` or past it. Assumes nothing.
use mathlib.Core.Path.{◌≡◌, refl, sym, ap}
use mathlib.Core.Bool.{not}
use mathlib.Core.List.{[]}
use mathlib.Core.Logic.{inl, inr}
use Prim.Native.Nat.{◌+◌, ◌-◌, ◌*◌}
use native.Mathlib.Omega.{arith}
use borrow.Author.Rules.{rules}
use Rattle.words.proofs.EveryLaws.{pair_end}
use Rattle.sectors.specs.Sectors.{sec}
use Rattle.counts.specs.Stamps.{table_in}
use Rattle.directory.specs.Directory.{entries_of}
use Rattle.directory.proofs.DirectoryLaws.{entries-lt, entries-le}
use Rattle.card.specs.Files.{run_at}
use Rattle.card.proofs.TallyTests.{empty-row, empty-rising, row-stop, row-go, row-rising}
use Rattle.card_tally.proofs.Runs.{run-room}
use Rattle.card_tally.proofs.pairs_apart.Goals as goal
use Rattle.card_tally.proofs.pairs_apart.Goals.{then-low-r, else-low-r}

pub loop-i-init : goal.loop-i-init
loop-i-init c =
    let g = c.args.card.geo in
    (search rules, search rules, sym (pair_end _ _ [] _ (entries-le g _ (4 * g.d) (omega arith)) refl), λ j a b. absurd (omega arith))

pub loop-i-preserved-then-r-eq0 : goal.loop-i-preserved-then-r-eq0
unfolding run_at
loop-i-preserved-then-r-eq0 c =
    let a = c.args in
    let P = c.requires in
    let tab = table_in a.card.geo a.v (sec a.card.bytes.now) in
    let es = entries_of a.card.geo (sec a.card.bytes.now) in
    let now-at = c.loop-i in
    let next : now-at.i ≡ now-at.i - 1 + 1 = omega (arith, c.loop-i-test.true) in
    let l = entries-lt a.card.geo a.card.bytes.now (now-at.i - 1) (omega (arith, now-at.invariant.0, now-at.invariant.1, c.loop-i-test.true)) in
    let z = c.if-r-eq0.true in
    let done = now-at.invariant.2 in
    (omega arith, now-at.invariant.1, empty-row a.card.geo tab es P _ _ next l _ c.run_at-r.ensures done z, empty-rising a.card.geo tab es P _ _ next l _ c.run_at-r.ensures done _ _ z now-at.invariant.3)

pub overflow_add-r : goal.overflow_add-r
overflow_add-r c = omega (arith, c.args.card.laid.s, run-room _ _ _ c.requires (omega arith) c.run_at-r.ensures)

pub parted_from-requires : goal.parted_from-requires
parted_from-requires c =
    let o = c.loop-i.invariant in
    (run-room _ _ _ c.requires (omega arith) c.run_at-r.ensures, (elim c.if-low-r.branch [ then-low-r w ↦ omega (arith, w.rest-is) | else-low-r w ↦ omega (arith, o.1, w.rest-is) ], c.requires))

pub returns-then-not-parted_from : goal.returns-then-not-parted_from
unfolding run_at
returns-then-not-parted_from c =
    let a = c.args in
    let P = c.requires in
    let tab = table_in a.card.geo a.v (sec a.card.bytes.now) in
    let es = entries_of a.card.geo (sec a.card.bytes.now) in
    let now-at = c.loop-i in
    let next : now-at.i ≡ now-at.i - 1 + 1 = omega (arith, c.loop-i-test.true) in
    let l = entries-lt a.card.geo a.card.bytes.now (now-at.i - 1) (omega (arith, now-at.invariant.0, now-at.invariant.1, c.loop-i-test.true)) in
    row-stop a.card.geo tab es P _ _ next l _ c.run_at-r.ensures now-at.invariant.2 _ _ _ now-at.invariant.0 now-at.invariant.3 (elim c.if-low-r.branch [ then-low-r w ↦ inl (w.if-low-r.true, w.rest-is) | else-low-r w ↦ inr (w.if-low-r.false, w.rest-is) ]) c.parted_from.ensures (ap not c.if-not-parted_from.true)

pub loop-i-preserved : goal.loop-i-preserved
unfolding run_at
loop-i-preserved c =
    let a = c.args in
    let P = c.requires in
    let tab = table_in a.card.geo a.v (sec a.card.bytes.now) in
    let es = entries_of a.card.geo (sec a.card.bytes.now) in
    let now-at = c.loop-i in
    let next : now-at.i ≡ now-at.i - 1 + 1 = omega (arith, c.loop-i-test.true) in
    let l = entries-lt a.card.geo a.card.bytes.now (now-at.i - 1) (omega (arith, now-at.invariant.0, now-at.invariant.1, c.loop-i-test.true)) in
    let up = row-rising a.card.geo tab es P _ _ next l _ c.run_at-r.ensures now-at.invariant.2 _ _ _ now-at.invariant.0 now-at.invariant.3 (elim c.if-low-r.branch [ then-low-r w ↦ inl (w.if-low-r.true, w.rest-is) | else-low-r w ↦ inr (w.if-low-r.false, w.rest-is) ]) in
    let apart = row-go a.card.geo tab es P _ _ next l _ c.run_at-r.ensures now-at.invariant.2 _ _ _ now-at.invariant.0 now-at.invariant.3 (elim c.if-low-r.branch [ then-low-r w ↦ inl (w.if-low-r.true, w.rest-is) | else-low-r w ↦ inr (w.if-low-r.false, w.rest-is) ]) c.parted_from.ensures (ap not c.if-not-parted_from.false) in
    (elim c.if-low-r.branch [ then-low-r w ↦ omega (arith, w.rest-is) | else-low-r w ↦ omega (arith, w.rest-is) ], elim c.if-low-r.branch [ then-low-r w ↦ omega (arith, w.rest-is) | else-low-r w ↦ omega (arith, w.rest-is) ], apart, up)

pub returns : goal.returns
returns c = let z : c.loop-i.i ≡ 0 = omega arith in sym (rw z at c.loop-i.invariant.2)
