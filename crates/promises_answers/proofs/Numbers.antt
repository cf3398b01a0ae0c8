-- Proofs: the table of numbers.
pub mod NumbersWhole
pub mod NumbersFile
pub mod NumbersProved
