-- Proofs: the histories of a module that calls the host's functions.
pub mod HostRunsProved
pub mod HostStops
pub mod HostFitsProved
