use Rattle.neph_command.proofs.Numerals.{ReadTo}
use Rattle.neph_command.proofs.word.any_number.Given as goal

abbrev pub invariant-loop-b : goal.invariant-loop-b
invariant-loop-b l = ReadTo l.word l.b-index l.n
