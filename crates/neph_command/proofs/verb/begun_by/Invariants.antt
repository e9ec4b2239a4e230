use Rattle.std.proofs.Common.{◌≡◌, drop}
use Rattle.std.specs.Prelude.{find}
use Rattle.neph_command.specs.Verbs.{keyword, verb_of}
use Rattle.neph_command.specs.Words.{equals}
use Rattle.neph_command.proofs.verb.begun_by.Given as goal

abbrev pub invariant-loop-verb : goal.invariant-loop-verb
invariant-loop-verb l = find (λ v. equals l.word (keyword v)) (drop l.verb-index l.verb-items) ≡ verb_of l.word
