-- Laws and proofs that belong to no one function.
pub mod TableLaws
pub mod StampLaws
pub mod GeoLaws
