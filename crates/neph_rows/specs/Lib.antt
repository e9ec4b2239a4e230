pub mod Shares
pub mod Slots
pub mod Records
pub mod Live
pub mod Sound
pub mod Kept
pub mod Row
