-- What is found in the pages that are left. Assumes nothing.
use Rattle.std.proofs.Common.{◌≡◌, ◌-◌}
use Rattle.sectors.specs.Sectors.{sec}
use Rattle.counts.specs.Stamps.{table_in}
use Rattle.apages.specs.Inner.{run_from}
use Rattle.store_find.proofs.lowest_in.Given as goal

abbrev pub invariant-loop-p : goal.invariant-loop-p
invariant-loop-p l = run_from l.g (table_in l.g l.v (sec l.work)) (table_in l.g l.w (sec l.work)) (sec l.work) l.k l.first (l.end - l.first) ≡ run_from l.g (table_in l.g l.v (sec l.work)) (table_in l.g l.w (sec l.work)) (sec l.work) l.k l.p (l.end - l.p)
