pub mod Why
pub mod Words
pub mod Plain
pub mod Kind
pub mod Verbs
pub mod Kinds
pub mod Commands
