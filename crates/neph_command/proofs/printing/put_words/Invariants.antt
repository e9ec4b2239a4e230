use Rattle.std.proofs.Common.{◌≡◌, ◌++◌, ◌∷◌, drop, map}
use Rattle.neph_command.proofs.Printed.{spaced_operands}
use Rattle.neph_command.specs.Verbs.{keyword}
use Rattle.neph_command.specs.Kinds.{operand_word}
use Rattle.neph_model.specs.Words.{spaced}
use Rattle.neph_command.proofs.printing.put_words.Given as goal

abbrev pub invariant-loop-operand : goal.invariant-loop-operand
invariant-loop-operand l = l.text.items ++ spaced_operands (drop l.operand-index l.operands) ≡ l.fn.text.items ++ spaced (keyword l.fn.verb ∷ map operand_word l.operands)
