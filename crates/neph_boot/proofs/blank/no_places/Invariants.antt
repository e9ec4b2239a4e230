use Rattle.std.proofs.Common.{◌≡◌, replicate}
use Rattle.neph_machine.specs.declared.place.Place.TheVariants.{Empty}
use Rattle.neph_boot.proofs.blank.no_places.Given as goal

abbrev pub invariant-loop : goal.invariant-loop
invariant-loop g l = l.places.items ≡ replicate l.counter Empty
