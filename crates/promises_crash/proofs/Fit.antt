-- Proofs: what keeps a session fitting.
pub mod FitMount
pub mod FitHistory
pub mod FitKeptProved
