use Rattle.std.proofs.Common.{refl, sym}
use Rattle.neph_machine.specs.declared.machine.Machine.{Machine}
use Rattle.neph_machine.specs.Reached.{state_after}
use Rattle.neph_machine.proofs.Reached.{reached}
use Rattle.neph_lines.proofs.Exits.{exit_done}
use Rattle.neph_lines.proofs.exit.exit_turn.Goals as goal

pub returns : goal.returns
returns g c =
    let s = c.args.machine.now.script in
    let new : Machine g.row.P.Denot g.row.P-Seat.Denot = record { script = s; pool = c.end_domain-reply.new.pool; hv = c.end_domain-reply.new.self; places = c.take_live-live.new.places } in
    let did = c.end_domain-reply.ensures in
    let at = c.requires.running in
    λ before stands.
    exit_done g.P.FramePool.world c.args.machine.now new c.args.id c.requires.here c.take_live-live.result (sym c.take_live-live.ensures.here) c.take_live-live.ensures.out refl did.hv did.row did.stock did.names did.others did.shares (state_after s at.0) (reached s c.requires.formed at.0) at.1
    c.end_domain-reply.result did.reply (state_after s before) (reached s c.requires.formed before) stands
