pub mod Hv
pub mod Begins
pub mod Serving
pub mod Grants
pub mod Calls
