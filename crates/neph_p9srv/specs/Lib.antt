-- What a reader must believe: the texts, the state, and the rules.
pub mod Texts
pub mod State
pub mod Rules
-- Inner: how the tree keeps the entries of its directories.
pub mod Entries
pub mod Example
