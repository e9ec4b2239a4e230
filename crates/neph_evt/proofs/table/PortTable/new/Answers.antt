use Rattle.neph_evt.proofs.PlaceMaps.{map_of-closed}
use Rattle.neph_evt.proofs.table.PortTable.new.Goals as goal

pub returns : goal.returns
returns c = map_of-closed c.loop-place.places.items c.loop-place._place c.loop-place.invariant
