pub mod Guests
pub mod Calls
