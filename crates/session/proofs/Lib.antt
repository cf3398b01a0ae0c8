-- Laws and proofs that belong to no one function.
pub mod FitTests
pub mod FitLaws
pub mod FitMeansProved
