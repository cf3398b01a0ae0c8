-- Nothing where no bit changes; else the group read, changed and written with its page. Assumes nothing.
use mathlib.Core.Path.{◌≡◌, ap, ◌∙◌}
use mathlib.Core.List.{List}
use Prim.Native.Nat.{ℕ, ◌+◌, ◌-◌, ◌*◌, ◌/◌, ◌<◌}
use native.Mathlib.Omega.{arith}
use lib.ListN.{take, drop}
use Rattle.counts.proofs.TableLaws.{pages-few}
use Rattle.apages.specs.Index.{index_of}
use Rattle.apages.proofs.ChangeLaws.{run_none, change-named, run-some}
use Rattle.apages_bitmap.proofs.change_run.Goals as goal

-- a run that changes lies in a page that there is
in-page : (a n p : ℕ) → (n ≡ 0 → ⊥) → (0 < n → a < 4096 * p) → a / 4096 < p
in-page a n p o h = let l : a < 4096 * p = h (omega arith) in omega arith

-- the 16 bytes that are lent
lent : (r at : ℕ) (img : List ℕ) → r ≡ at → take (r + 16 - r) (drop r img) ≡ take 16 (drop at img)
lent r at img e = let z : r + 16 - r ≡ 16 = omega arith in rw (z, e)

pub returns-then-n-eq0 : goal.returns-then-n-eq0
returns-then-n-eq0 c = run_none _ _ _ _ _ _ _ c.if-n-eq0.true

pub slice_bounds-index_of-end : goal.slice_bounds-index_of-end
slice_bounds-index_of-end c = omega (arith, pages-few c.args.g c.requires.0.s, in-page _ _ _ c.if-n-eq0.false c.requires.1.1.1, c.requires.0.room, c.group_at-at.ensures)

pub change_pair-requires : goal.change_pair-requires
change_pair-requires c =
    let l = in-page _ _ _ c.if-n-eq0.false c.requires.1.1.1 in
    let x = c.index_of-x.ensures ∙ ap index_of (lent _ _ c.args.img.now c.group_at-at.ensures) in
    let few = pages-few c.args.g c.requires.0.s in
    let named = change-named c.args.g c.args.img.now c.args.own _ c.args.a.0 (omega (arith, few, l)) x c.changed_index.ensures (c.requires.1.0 _ l) in
    (c.requires.0, (l, (named, c.requires.1.1.0)))

pub returns : goal.returns
returns c =
    let l = in-page _ _ _ c.if-n-eq0.false c.requires.1.1.1 in
    let x = c.index_of-x.ensures ∙ ap index_of (lent _ _ c.args.img.now c.group_at-at.ensures) in
    let few = pages-few c.args.g c.requires.0.s in
    run-some c.args.g c.args.img.now c.args.own _ c.args.a.0 (omega (arith, few, l)) x c.changed_index.ensures _ _ _ c.if-n-eq0.false c.stands-st.ensures c.change_pair.ensures
