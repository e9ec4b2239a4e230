use Rattle.std.proofs.Common.{◌≡◌, replicate}
use Rattle.neph_evt.proofs.PlaceMaps.{closed_place}
use Rattle.neph_evt.proofs.table.PortTable.new.Given as goal

abbrev pub invariant-loop-place : goal.invariant-loop-place
invariant-loop-place l = l.places.items ≡ replicate l._place closed_place
