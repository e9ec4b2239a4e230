pub mod Sparing
pub mod Frames
pub mod Beginning
pub mod Committing
pub mod Asking
pub mod Answering
pub mod Granting
