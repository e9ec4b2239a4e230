use Rattle.std.proofs.Common.{◌≡◌, ◌+◌, length}
use Rattle.neph_clone.proofs.tests.first_in_first_out.Given as goal

abbrev pub invariant-loop-n : goal.invariant-loop-n
invariant-loop-n g l = length l.ring + 1 ≡ l.n
