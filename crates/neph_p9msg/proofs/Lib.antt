pub mod Loop
pub mod FieldLaws
pub mod Bodies
pub mod Whole
pub mod Puts
