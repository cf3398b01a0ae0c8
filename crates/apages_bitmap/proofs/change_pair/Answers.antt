-- The group, the page copied to A, and its run, one after the other. Assumes nothing.
use Prim.Native.Nat.{◌+◌}
use native.Mathlib.Omega.{arith}
use Rattle.sectors.proofs.SectorLaws.{sec-length}
use Rattle.counts.proofs.TableLaws.{pages-few, dir-is}
use Rattle.apages.specs.Index.{index_in}
use Rattle.apages.proofs.PageLaws.{before-page}
use Rattle.apages.proofs.ChangeLaws.{run-written}
use Rattle.apages_bitmap.proofs.change_pair.Goals as goal

pub put_group-requires : goal.put_group-requires
put_group-requires c = omega (arith, pages-few c.args.g c.requires.0.s, c.requires.0.room, c.group_at-at.ensures)

pub copy_page-requires : goal.copy_page-requires
copy_page-requires c =
    let w = before-page c.args.g _ c.args.st c.args.y c.requires.1.1.0 in
    (omega (arith, w.1, dir-is c.args.g, c.requires.0.room, c.page_before.ensures), omega (arith, c.requires.1.1.0.0.1, dir-is c.args.g, c.requires.0.room))

pub change_page-requires : goal.change_page-requires
change_page-requires c =
    (omega (arith, c.requires.1.1.0.0.1, dir-is c.args.g, c.requires.0.room), c.requires.1.1.1)

pub returns : goal.returns
returns c =
    let g = c.args.g in
    let y = c.args.y in
    let d = c.put_group.new.s in
    let w = before-page g _ c.args.st y c.requires.1.1.0 in
    run-written g c.args.st y _ _ _ c.args.img.now (omega (arith, pages-few g c.requires.0.s, c.requires.1.0)) (λ e. omega (arith, e, w.0))
    (unfold index_in in sec-length _ (g.t + 1) (omega (arith, c.requires.0.room))) (sec-length _ _ (omega (arith, w.1, dir-is g, c.requires.0.room, c.requires.1.0))) (omega (arith, c.requires.1.1.0.0.1, dir-is g, c.requires.0.room, c.requires.1.0))
    (rw c.group_at-at.ensures at c.put_group.ensures)
    (rw c.page_before.ensures at c.copy_page.ensures) c.change_page.ensures
