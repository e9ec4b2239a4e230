pub mod Starts
pub mod Forks
pub mod Copies
pub mod Freed
pub mod Crowd
