-- Proofs: what keeps a session fitting.
pub mod FitParts
pub mod FitEdit
pub mod FitCalm
pub mod FitAll
