-- Laws and proofs that belong to no one function.
pub mod SectorLaws
pub mod FlatLaws
pub mod Fewer
