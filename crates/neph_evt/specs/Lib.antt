pub mod PortMap
pub mod Places
pub mod Pairing
pub mod Asking
pub mod Opening
pub mod Sending
pub mod Closing
pub mod Cloning
