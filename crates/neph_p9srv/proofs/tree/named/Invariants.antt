use Rattle.std.proofs.Common.{◌≡◌, drop}
use Rattle.neph_p9srv.specs.Entries.{first_named}
use Rattle.neph_p9srv.proofs.tree.named.Given as goal

abbrev pub invariant-loop-n : goal.invariant-loop-n
invariant-loop-n l = first_named l.nodes (drop l.n-index l.among) l.name ≡ first_named l.nodes l.among l.name
