-- What a reader must believe: the grammar of messages.
pub mod Grammar
-- Inner: reading from left to right, which is proved to be the grammar.
pub mod Reading
