pub mod Lists
pub mod Stock
pub mod Holds
pub mod Pages
pub mod Heap
pub mod Kept
pub mod Loose
