pub mod Call
pub mod Process
