pub mod Crossing
pub mod FirstSteps
