pub mod Below
pub mod Slots
pub mod Uses
pub mod Entry
pub mod Table
pub mod Handles
