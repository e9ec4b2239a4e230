pub mod Flat
pub mod Pages
pub mod Sound
pub mod Local
pub mod Answers
pub mod Halves
