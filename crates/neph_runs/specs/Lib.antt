pub mod Orderly
pub mod Work
