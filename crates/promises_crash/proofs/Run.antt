-- Proofs: each call keeps the invariant, mount, sync and unmount step by step.
pub mod Steps
pub mod SyncRun
pub mod SyncEnd
pub mod MountRun
pub mod CardRun
pub mod StepAll
