use Rattle.std.proofs.Common.{Bool, refl, sym, subst}
use Rattle.neph_guest.specs.declared.live.Live.{Live}
use Rattle.neph_guest.specs.declared.turned.Turned.TheVariants.{Did}
use Rattle.neph_guest.specs.Turned.{SpareDone}
use Rattle.neph_guest.proofs.turn.spare_turn.Goals as goal

pub returns : goal.returns
returns g c =
    let e = c.spare.ensures in
    let f = c.refuse-reply.ensures in
    let now : Live _ _ = record { guest = c.args.live.now.guest; local = c.spare.new.d } in
    record {
      local = c.spare.new.d;
      took = c.spare.result;
      stands = e.stands;
      spare = e.spare;
      spared = e.spared;
      after = subst (λ (b : Bool). SpareDone g.P.FramePool.world c.spare.new.pool now c.refuse-reply.new.live b (Did c.refuse-reply.result)) (sym c.if-spare.false)
          (c.refuse-reply.result, refl, record { half = f.half; local = f.local; stage = f.stage; dom = f.dom });
    }
