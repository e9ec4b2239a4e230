use Rattle.std.proofs.Common.{◌≡◌, take}
use Rattle.neph_gmap.proofs.map.GuestMap.copy_vpns.Given as goal

abbrev pub invariant-loop-list : goal.invariant-loop-list
invariant-loop-list l = l.lists.items ≡ take l.list-index l.from.vpns
