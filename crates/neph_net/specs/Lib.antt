pub mod Families
pub mod Delivery
