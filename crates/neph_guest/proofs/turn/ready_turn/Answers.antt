use Rattle.std.proofs.Common.{inl, inr, refl, subst}
use Rattle.neph_guest.specs.declared.row.LocalTurn.{LocalTurn}
use Rattle.neph_guest.specs.declared.row.LocalTurn.TheVariants as turn
use Rattle.neph_guest.specs.Turned.{HasTried}
use Rattle.neph_guest.proofs.GuestTurns.{lacks_spare, lacks_room, asks_trap, asks_room}
use Rattle.neph_guest.proofs.turn.ready_turn.Goals as goal

pub returns-in-Err : goal.returns-in-Err
returns-in-Err g c = inr (inl ((c.in-Err.ensures, refl), c.requires.none, tt))

pub returns-in-Ok-Did : goal.returns-in-Ok-Did
returns-in-Ok-Did g c =
    inr (inr (
      c.requires.far,
      record {
        mid = c.try_line.new.pool;
        left = c.try_line.new.live;
        turn = turn.Did c.in-Ok-Did.reply;
        tried = subst (λ (t : LocalTurn). HasTried g.P.FramePool.world c.args.pool.now c.args.live.now c.try_line.new.pool c.try_line.new.live c.args.program.now c.args.command.now t) c.in-Ok-Did.field-0-is c.in-Ok-Did.ensures;
        follows = (refl, c.requires.none, record { pool = refl; hv = refl; live = refl });
      },
    ))

pub returns-in-Ok-Copies : goal.returns-in-Ok-Copies
returns-in-Ok-Copies g c =
    inr (inr (
      c.requires.far,
      record {
        mid = c.try_line.new.pool;
        left = c.try_line.new.live;
        turn = turn.Copies;
        tried = subst (λ (t : LocalTurn). HasTried g.P.FramePool.world c.args.pool.now c.args.live.now c.try_line.new.pool c.try_line.new.live c.args.program.now c.args.command.now t) c.in-Ok-Copies.field-0-is c.in-Ok-Copies.ensures;
        follows = (refl, c.requires.none, record { pool = refl; hv = refl; live = refl });
      },
    ))

pub spare_turn-requires : goal.spare_turn-requires
spare_turn-requires g c =
    let W = g.P.FramePool.world in
    let p = c.args.pool.now in
    let l = c.args.live.now in
    let q = c.try_line.new.pool in
    let m = c.try_line.new.live in
    let t = subst (λ (t : LocalTurn). HasTried W p l q m c.args.program.now c.args.command.now t) c.in-Ok-LacksFrame.field-0-is c.in-Ok-LacksFrame.ensures in
    let half = c.requires.half in
    record {
      serves = g.met.H.Hyper.kept c.args.hv.now p l.local q m.local c.requires.serves (record { moves = t.alone.moves; stands = t.alone.stands; id = t.alone.id; pages = t.pages });
      stands = t.alone.stands;
      none = lacks_spare W p l q m c.args.program.now c.args.command.now t;
      room = lacks_room W p l q m c.args.program.now c.args.command.now t half.0 half.1 c.requires.room;
    }

pub returns-in-Ok-LacksFrame : goal.returns-in-Ok-LacksFrame
returns-in-Ok-LacksFrame g c =
    inr (inr (
      c.requires.far,
      record {
        mid = c.try_line.new.pool;
        left = c.try_line.new.live;
        turn = turn.LacksFrame;
        tried = subst (λ (t : LocalTurn). HasTried g.P.FramePool.world c.args.pool.now c.args.live.now c.try_line.new.pool c.try_line.new.live c.args.program.now c.args.command.now t) c.in-Ok-LacksFrame.field-0-is c.in-Ok-LacksFrame.ensures;
        follows = (c.spare_turn.ensures, c.requires.none, tt);
      },
    ))

pub ask_turn-requires : goal.ask_turn-requires
ask_turn-requires g c =
    let W = g.P.FramePool.world in
    let p = c.args.pool.now in
    let l = c.args.live.now in
    let q = c.try_line.new.pool in
    let m = c.try_line.new.live in
    let t = subst (λ (t : LocalTurn). HasTried W p l q m c.args.program.now c.args.command.now t) c.in-Ok-Asks.field-0-is c.in-Ok-Asks.ensures in
    let half = c.requires.half in
    let far = c.requires.far in
    record {
      serves = g.met.H.Hyper.kept c.args.hv.now p l.local q m.local c.requires.serves (record { moves = t.alone.moves; stands = t.alone.stands; id = t.alone.id; pages = t.pages });
      stands = t.alone.stands;
      fits = c.requires.fits;
      asks = asks_trap W p l q m c.args.program.now c.args.command.now t half.0 half.1 far;
      room = asks_room W p l q m c.args.program.now c.args.command.now t half.0 half.1 c.requires.room;
      none = c.requires.none;
    }

pub returns-in-Ok-Asks : goal.returns-in-Ok-Asks
returns-in-Ok-Asks g c =
    inr (inr (
      c.requires.far,
      record {
        mid = c.try_line.new.pool;
        left = c.try_line.new.live;
        turn = turn.Asks;
        tried = subst (λ (t : LocalTurn). HasTried g.P.FramePool.world c.args.pool.now c.args.live.now c.try_line.new.pool c.try_line.new.live c.args.program.now c.args.command.now t) c.in-Ok-Asks.field-0-is c.in-Ok-Asks.ensures;
        follows = c.ask_turn.ensures;
      },
    ))
