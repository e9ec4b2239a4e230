use Rattle.std.proofs.Common.{◌≡◌, ◌++◌, replicate}
use Rattle.neph_p9srv.proofs.requests.pad.Given as goal

abbrev pub invariant-loop : goal.invariant-loop
invariant-loop l = l.bytes.items ≡ l.initial.bytes.items ++ replicate l.counter 0
