pub mod Counts
pub mod Entries
pub mod Growth
pub mod Node
pub mod NodeSlab
pub mod Nodes
pub mod Places
pub mod Refusals
