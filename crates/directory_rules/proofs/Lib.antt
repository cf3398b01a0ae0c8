-- Laws and proofs that belong to no one function.
pub mod Marks
pub mod Shows
