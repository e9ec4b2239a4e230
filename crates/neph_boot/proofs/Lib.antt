pub mod StartLines
pub mod NextLine
pub mod FirstOpening
pub mod HeapLeft
pub mod Opened
pub mod SoleFrames
pub mod StartStands
pub mod PlainStart
