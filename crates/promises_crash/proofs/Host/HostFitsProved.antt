-- What HostFits states, proved. Assumes nothing.
use Rattle.promises_crash.proofs.Host.HostRunsProved.{as-calls}
use Rattle.promises_crash.proofs.Fit.FitHistory.{always-fits}
use Rattle.promises_crash.specs.HostFits.{HostFits}

pub host-fits : HostFits
host-fits h w r = let A = as-calls r in rw (A.session, A.work) at (always-fits A.reached)
