-- Laws and proofs that belong to no one function.
pub mod TightProved
pub mod InnerProved
pub mod ListsProved
