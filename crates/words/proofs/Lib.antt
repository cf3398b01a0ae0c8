-- Laws and proofs that belong to no one function.
pub mod BoolLaws
pub mod SpliceLaws
pub mod SameLaws
pub mod WordLaws
pub mod FourWords
pub mod EveryLaws
pub mod PartLaws
pub mod EveryMore
pub mod FirstLaws
pub mod InnerLaws
