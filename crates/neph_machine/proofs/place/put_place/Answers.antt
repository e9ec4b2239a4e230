use Rattle.std.proofs.Common.{ap}
use Rattle.std.specs.Vec.{with_item}
use Rattle.neph_machine.proofs.place.put_place.Goals as goal

pub returns-clause-put : goal.returns-clause-put
returns-clause-put g c = ap (λ i. with_item c.args.places.now i c.args.place) c.get.ensures.value
