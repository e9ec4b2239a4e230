pub mod CourseLemmas
pub mod TextLemmas
