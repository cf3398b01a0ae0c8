-- Laws and proofs that belong to no one function.
pub mod CrossingLaws
pub mod WordRows
pub mod SessionBytes
pub mod HostCalls
pub mod FirstLaws
