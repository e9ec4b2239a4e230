pub mod Spelling
pub mod Zeros
pub mod Changing
pub mod Retabling
pub mod Copying
