pub mod HalfRows
pub mod Staying
pub mod Settling
pub mod Copies
pub mod Keeping
pub mod GuestTurns
