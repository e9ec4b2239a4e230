use Rattle.std.proofs.Common.{ap, ◌∙◌}
use Rattle.std.specs.Vec.{with_item}
use Rattle.neph_machine.proofs.place.take_place.Goals as goal

pub returns-clause-left : goal.returns-clause-left
returns-clause-left g c =
    ap (λ i. with_item c.args.places.now i c.replace.new.dest) c.get.ensures.value
    ∙ ap (with_item c.args.places.now c.args.id) c.replace.ensures.after
