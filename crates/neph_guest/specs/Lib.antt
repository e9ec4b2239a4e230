pub mod OwnHalf
pub mod Turns
pub mod Turned
pub mod Forked
