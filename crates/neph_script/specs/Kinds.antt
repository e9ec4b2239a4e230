-- The words for what is wrong with a line.
pub use Rattle.neph_command.specs.Why.{kind_word}
