pub mod GuestPages
pub mod Kept
