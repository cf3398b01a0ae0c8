pub mod Given
pub mod Steps
pub mod Mount
pub mod Edit
pub mod Look
pub mod Sync
pub mod Inner
