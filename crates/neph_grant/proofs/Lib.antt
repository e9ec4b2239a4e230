pub mod SlotLemmas
pub mod CountLemmas
pub mod BelowLemmas
