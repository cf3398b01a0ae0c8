pub mod Tight
pub mod TightLists
pub mod Inner
