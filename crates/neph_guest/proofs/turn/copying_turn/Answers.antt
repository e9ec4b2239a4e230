use Rattle.std.proofs.Common.{◌<◌, refl, sym, ap, subst, ◌∙◌}
use Rattle.neph_memory.specs.declared.own.Own.{Own}
use Rattle.neph_guest.specs.declared.live.Guest.{Guest}
use Rattle.neph_guest.specs.declared.row.CopyTurn.TheVariants as copy
use Rattle.neph_guest.proofs.GuestTurns.{waits_same}
use Rattle.neph_guest.proofs.turn.copying_turn.Goals as goal

pub returns-in-Did : goal.returns-in-Did
returns-in-Did g c =
    let e = c.in-Did.ensures in
    record {
      mid = c.copy_turn.new.pool;
      left = c.copy_turn.new.live;
      turn = copy.Did c.in-Did.reply;
      looked = record {
        alone = record { moves = e.moves; stands = e.stands; shares = e.shares; dom = e.dom; id = e.id };
        done = e.turn;
        place = e.place;
        waits = e.waits;
        guest = e.guest;
        hand = e.hand;
        stage = e.stage;
      };
      follows = (refl, record { pool = refl; hv = refl; live = refl });
    }

pub spare_turn-requires : goal.spare_turn-requires
spare_turn-requires g c =
    let e = c.in-LacksFrame.ensures in
    let p = c.args.pool.now in
    let d = c.args.live.now.local in
    let q = c.copy_turn.new.pool in
    let m = c.copy_turn.new.live in
    let w = waits_same g.P.FramePool.world p d q m.local c.args.command.now c.requires.line e.place in
    record {
      serves = g.met.H.Hyper.kept c.args.hv.now p d q m.local c.requires.serves (record { moves = e.moves; stands = e.stands; id = e.id; pages = ap (λ (o : Own). o.map.pages) w.0.own });
      stands = e.stands;
      none = ap (λ (o : Own). o.spare) w.0.own ∙ w.1;
      room = subst (λ (x : Guest). x.line < 65535) (sym (e.guest refl)) c.requires.room;
    }

pub returns-in-LacksFrame : goal.returns-in-LacksFrame
returns-in-LacksFrame g c =
    let e = c.in-LacksFrame.ensures in
    record {
      mid = c.copy_turn.new.pool;
      left = c.copy_turn.new.live;
      turn = copy.LacksFrame;
      looked = record {
        alone = record { moves = e.moves; stands = e.stands; shares = e.shares; dom = e.dom; id = e.id };
        done = e.turn;
        place = e.place;
        waits = e.waits;
        guest = e.guest;
        hand = e.hand;
        stage = e.stage;
      };
      follows = c.spare_turn.ensures;
    }
