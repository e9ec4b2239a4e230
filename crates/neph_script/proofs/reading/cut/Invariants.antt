use Rattle.std.proofs.Common.{◌≡◌, ◌≤◌, ◌++◌, map, length}
use Rattle.neph_script.specs.Grammar.{parts_at}
use Rattle.neph_script.proofs.reading.cut.Given as goal

abbrev pub invariant-words : goal.invariant-words
invariant-words l =
    record {
      words : map (λ w. w.now) l.words.items ++ parts_at 32 l.rest ≡ parts_at 32 l.line;
      short : length l.rest ≤ length l.line;
    }

abbrev pub decreases-words : goal.decreases-words
decreases-words l = length l.rest
