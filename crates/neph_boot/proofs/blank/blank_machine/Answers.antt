use Rattle.std.proofs.Common.{ap, ◌∙◌}
use Rattle.neph_machine.specs.declared.machine.Machine.{Machine}
use Rattle.neph_boot.proofs.FirstOpening.{first_opening}
use Rattle.neph_boot.proofs.blank.blank_machine.Goals as goal

pub returns-clause-opening : goal.returns-clause-opening
returns-clause-opening g c =
    let W = g.P.FramePool.world in
    let m : Machine g.row.P.Denot g.row.P-Seat.Denot = record { script = c.args.script; pool = c.args.pool; hv = record { registry = c.in_ok-registry.registry; heap = c.in_ok-heap.heap }; places = c.in_ok-places.places } in
    first_opening W m c.requires.formed c.in_ok-heap.ensures.lists c.in_ok-places.ensures c.requires.frames c.requires.cap c.in_ok-heap.ensures.heap
    (λ id lt. ap (λ s. W.names s id) c.in_ok-heap.ensures.seat ∙ c.requires.names id lt)
