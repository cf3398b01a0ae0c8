-- Laws and proofs that belong to no one function.
pub mod SpotLaws
pub mod NameLaws
pub mod DirectoryLaws
pub mod ApartLaws
pub mod EntryRuns
