pub mod FidLemmas
pub mod EntryLemmas
pub mod WalkLemmas
pub mod ExampleLemmas
