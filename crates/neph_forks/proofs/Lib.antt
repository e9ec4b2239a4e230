pub mod Putting
pub mod Begun
pub mod TwoPlaces
pub mod PageSteps
pub mod Stepping
