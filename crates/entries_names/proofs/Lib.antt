-- Laws and proofs that belong to no one function.
pub mod NameHash
pub mod Unlike
