pub mod Standing
pub mod Seats
