pub mod Bytes
pub mod P9Page
pub mod Indexes
pub mod Console
pub mod Network
pub mod Pages
pub mod Frames
pub mod FrameLaws
