use Rattle.std.proofs.Common.{Ok, Err, refl}
use Rattle.neph_guest.proofs.GuestTurns.{err_is}
use Rattle.neph_guest.proofs.turn.trap_turn.Goals as goal

pub returns-in_err-reply : goal.returns-in_err-reply
returns-in_err-reply g c =
    let e = c.in_err-reply.ensures in
    record {
      local = c.trap.new.d;
      answer = Err c.in_err-reply.field-0.0;
      stands = e.stands;
      same = e.same;
      row = tt;
      lacks = e.lacks;
      unbegun = e.unbegun;
      trapped = e.trapped;
      after = (err_is c.from_residual.result c.in_err-reply.field-0.0 c.from_residual.ensures.0, refl);
    }

pub returns : goal.returns
returns g c =
    let e = c.in_ok-reply.ensures in
    let f = c.go_on.ensures in
    record {
      local = c.trap.new.d;
      answer = Ok c.in_ok-reply.reply;
      stands = e.stands;
      same = e.same;
      row = e.answer;
      lacks = tt;
      unbegun = tt;
      trapped = e.trapped;
      after = (refl, record { half = f.half; local = f.local; stage = f.stage; dom = f.dom });
    }
