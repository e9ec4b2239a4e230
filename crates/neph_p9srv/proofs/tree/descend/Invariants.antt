use Rattle.std.proofs.Common.{◌≡◌, ◌<◌, drop, length}
use Rattle.neph_p9srv.specs.State.{descend}
use Rattle.neph_p9srv.proofs.tree.descend.Given as goal

abbrev pub invariant-loop-name : goal.invariant-loop-name
invariant-loop-name l = (l.at < length l.nodes) × (descend l.nodes l.at (drop l.name-index l.names) ≡ descend l.nodes l.fn.at l.names)
