pub mod Session
pub mod Views
pub mod Fits
pub mod FitMeans
