-- Document 02, No. 11, for what a module runs: in every history of host functions the session that the bytes hold fits its working image, which is what each function of
-- crate fitting requires. Assumes nothing.
use Rattle.store.specs.Inner.{FitOf}
use Rattle.host_crossing.specs.Crossing.{decoded}
use Rattle.promises_crash.specs.History.{World}
use Rattle.promises_crash.specs.HostRuns.{Held, Runs}

abbrev pub HostFits : Type 0
HostFits = (h : Held) (w : World) → Runs h w → FitOf (decoded h.bytes) h.work
