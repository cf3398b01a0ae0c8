-- Proofs: the plain list that goes along with a history.
pub mod AlongCalls
pub mod AlongProved
