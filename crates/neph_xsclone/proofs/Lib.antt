pub mod Adding
pub mod Moving
pub mod NodeByNode
pub mod Paths
pub mod StartPaths
