-- Operands that are printed in part.
use Rattle.std.proofs.Common.{◌≡◌, ℕ, List, [], ◌∷◌, ◌++◌, map, sym, ap}
use Rattle.std.proofs.lemmas.List.{append-nil}
use Rattle.neph_command.specs.Kinds.{operand_word}
use Rattle.neph_model.specs.Words.{spaced}
use Rattle.neph_command.specs.declared.operand.Operand.{Operand}

-- operands, each with a space before it
abbrev pub spaced_operands : List Operand → List ℕ
spaced_operands [] = []
spaced_operands (x ∷ xs) = 32 ∷ (operand_word x ++ spaced_operands xs)

pub joined : (w : List ℕ) (xs : List Operand) → spaced (w ∷ map operand_word xs) ≡ w ++ spaced_operands xs
joined w [] = sym (append-nil w)
joined w (x ∷ rest) = ap (λ (xs : List ℕ). w ++ 32 ∷ xs) (joined (operand_word x) rest)
