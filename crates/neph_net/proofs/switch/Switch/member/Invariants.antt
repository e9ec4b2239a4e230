use Rattle.std.proofs.Common.{◌≡◌, ◌+◌, length}
use Rattle.neph_net.specs.Families.{is_member}
use Rattle.neph_net.proofs.Counting.{below}
use Rattle.neph_net.proofs.switch.Switch.member.Given as goal

abbrev pub invariant-loop-id : goal.invariant-loop-id
invariant-loop-id l = l.place ≡ l.before + length (below (is_member l.self l.family) l.id)
