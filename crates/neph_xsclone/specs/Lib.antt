pub mod Copying
pub mod Rewriting
