-- Proofs: the two figures of free.
pub mod FreeCounts
pub mod FreeProved
pub mod FreeMount
