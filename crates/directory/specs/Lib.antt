pub mod Directory
pub mod Inner
