use Rattle.neph_guest.proofs.GuestTurns.{tried_or_lacked}
use Rattle.neph_guest.proofs.turn.try_line.Goals as goal

pub returns : goal.returns
returns g c =
    let e = c.local_turn.ensures in
    tried_or_lacked g.P.FramePool.world c.args.pool.now c.args.live.now c.local_turn.new.pool c.local_turn.new.live c.args.program.now c.args.command.now
    (record { moves = e.moves; stands = e.stands; shares = e.counts.shares; dom = e.dom; id = e.id })
    c.local_turn.result e.turn e.hand e.look e.spare e.held e.lacks e.stage e.pages e.map e.memory e.guest
