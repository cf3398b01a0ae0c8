-- The loop's invariant: both figures of the pairs passed are counted. Assumes nothing.
use mathlib.Core.Path.{◌≡◌}
use Prim.Native.Nat.{◌+◌, ◌*◌, ◌≤◌}
use Rattle.sectors.specs.Sectors.{sec}
use Rattle.counts.specs.Stamps.{table_in}
use Rattle.apages.specs.Free.{free_in, waiting_in}
use Rattle.apages.specs.Index.{page_in}
use Rattle.store_figures.proofs.FigureLaws.{left_in}
use Rattle.store_figures.proofs.figures_in.Given as goal

abbrev pub invariant-loop-p : goal.invariant-loop-p
invariant-loop-p l =
    let tp = table_in l.img.geo l.v (sec l.img.bytes.now) in
    let tc = table_in l.img.geo l.w (sec l.img.bytes.now) in
    record {
      free : l.free + left_in free_in l.img.geo tp tc l.img.bytes.now l.p ≡ free_in (page_in l.img.geo tp (sec l.img.bytes.now)) (page_in l.img.geo tc (sec l.img.bytes.now));
      waiting : l.waiting + left_in waiting_in l.img.geo tp tc l.img.bytes.now l.p ≡ waiting_in (page_in l.img.geo tp (sec l.img.bytes.now)) (page_in l.img.geo tc (sec l.img.bytes.now));
      few : (l.free ≤ 4096 * l.p) × (l.waiting ≤ 4096 * l.p);
    }
