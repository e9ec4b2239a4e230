-- Lists that were read in part.
use Rattle.std.proofs.Common.{◌≡◌, List, [], ◌∷◌, ◌++◌, Result, Ok, Err, refl, ap, append_assoc, sym}
use Rattle.neph_command.specs.Words.{◌>>=◌}
use Rattle.neph_command.specs.declared.why.Why.{Why}

-- these, and then what is read
abbrev pub onto : {X : Type 0} → List X → Result (List X) Why → Result (List X) Why
onto front (Ok xs) = Ok (front ++ xs)
onto front (Err e) = Err e

pub onto_more : {X : Type 0} (front : List X) (x : X) (rest : Result (List X) Why) → onto front (rest >>= λ xs. Ok (x ∷ xs)) ≡ onto (front ++ x ∷ []) rest
onto_more front x (Ok xs) = ap Ok (sym (append_assoc front (x ∷ []) xs))
onto_more front x (Err e) = refl
