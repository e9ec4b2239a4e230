use Rattle.std.proofs.Common.{◌≡◌, false, replicate}
use Rattle.neph_memory.proofs.own.Own.new.Given as goal

abbrev pub invariant-loop-p : goal.invariant-loop-p
invariant-loop-p l = l.marks.items ≡ replicate l._p false
