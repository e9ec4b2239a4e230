pub mod Course
pub mod Does
pub mod Plays
