-- Laws and proofs that belong to no one function.
pub mod TrialsCard
pub mod TrialsRun
pub mod Trials
pub mod TrialsStore
pub mod TrialsFree
pub mod TrialsOrder
pub mod TrialsSync
pub mod TrialsTable
pub mod TrialsBuild
pub mod TrialsPages
pub mod TrialsEdit
pub mod TrialsReuse
pub mod TrialsEarly
pub mod TrialsFar
pub mod TrialsWrap
