pub mod Keys
pub mod PlaceMaps
pub mod Changes
pub mod Ends
pub mod Pairs
pub mod Columns
pub mod Keeping
pub mod Fresh
