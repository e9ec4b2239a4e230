use Rattle.std.proofs.Common.{◌≡◌, replicate}
use Rattle.std.specs.FinMap as fin
use Rattle.neph_p9srv.proofs.served.Served.new.Given as goal

abbrev pub invariant-loop : goal.invariant-loop
invariant-loop l = l.fids.items ≡ replicate l.counter fin.empty
