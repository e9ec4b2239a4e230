pub mod Admission
pub mod Waiting
