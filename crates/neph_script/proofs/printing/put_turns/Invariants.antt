use Rattle.std.proofs.Common.{◌≡◌, ◌++◌, map, length}
use Rattle.neph_script.specs.Spelling.{turns_words}
use Rattle.neph_script.specs.Text.{lines_text, turn_groups}
use Rattle.neph_script.proofs.printing.put_turns.Given as goal

abbrev pub invariant-groups : goal.invariant-groups
invariant-groups l = l.out.items ++ lines_text (map turns_words (turn_groups l.rest)) ≡ l.fn.out.items ++ lines_text (map turns_words (turn_groups l.turns))

abbrev pub decreases-groups : goal.decreases-groups
decreases-groups l = length l.rest
