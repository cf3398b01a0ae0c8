-- Proofs: what land, mount, sync and unmount leave.
pub mod LeavesSync
pub mod LeavesUnmount
pub mod LeavesProved
