use Rattle.std.proofs.Common.{◌≡◌, ◌-◌, find}
use Rattle.std.specs.List.{range_with_len}
use Rattle.neph_evt.specs.Opening.{is_closed, least_closed}
use Rattle.neph_evt.proofs.links.least_closed.Given as goal

abbrev pub invariant-loop-number : goal.invariant-loop-number
invariant-loop-number l = least_closed l.table l.dom ≡ find (is_closed l.table l.dom) (range_with_len l.number (64 - l.number))
