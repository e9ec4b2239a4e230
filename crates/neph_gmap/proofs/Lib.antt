pub mod Rising
pub mod Sets
pub mod Unaliased
