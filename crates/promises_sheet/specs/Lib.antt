pub mod Acts
pub mod Sheet
