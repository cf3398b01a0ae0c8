-- Laws and proofs that belong to no one function.
pub mod PassLaws
pub mod CodecLaws
pub mod EntryLaws
pub mod ChangeLaws
