use Rattle.std.proofs.Common.{refl}
use Rattle.neph_guest.proofs.forking.commit_turn.Goals as goal

pub returns-in-Ok-clause-born : goal.returns-in-Ok-clause-born
returns-in-Ok-clause-born g c = record {
  born = c.in-Ok.ensures.child;
  child = c.guest_behind-guest.ensures;
  parent = c.guest_behind-live.ensures;
}

pub returns-in-Err-clause-back : goal.returns-in-Err-clause-back
returns-in-Err-clause-back g c =
    let e = c.in-Err.ensures in
    record { hand = e.back; same = e.unborn; guest = refl {a = c.args.live.now.guest} }
