use Rattle.std.proofs.Common.{Ok, Option, sym, subst}
use Rattle.neph_base.specs.declared.command.Command.TheVariants.{Clone}
use Rattle.neph_base.specs.declared.reply.Reply.TheVariants.{Refused}
use Rattle.neph_local.specs.declared.forking.Fork.{Fork}
use Rattle.neph_hv.specs.Begins.{IsAnswered}
use Rattle.neph_hv.specs.Calls.{HasTrapped}
use Rattle.neph_hv.proofs.Answering.{refused_done}
use Rattle.neph_hv.proofs.hv.Hv.try_clone.Goals as goal

pub returns-in-Refused-clause-trapped : goal.returns-in-Refused-clause-trapped
returns-in-Refused-clause-trapped g c =
    let e = c.in_ok-why.ensures in
    subst (λ (b : Option (Fork _ _)). HasTrapped g.P.FramePool.world c.args.pool.now c.args.self.now c.begin.new.pool c.begin.new.self c.args.d.now c.begin.new.d Clone b (Ok (Refused c.in-Refused.why))) (sym c.requires.none)
    (refused_done g.P.FramePool.world c.args.pool.now c.args.self.now c.args.d.now c.begin.new.pool c.begin.new.self c.begin.new.d c.in-Refused.why
    (subst (λ b. IsAnswered g.P.FramePool.world c.args.pool.now c.args.self.now c.args.d.now c.begin.new.pool c.begin.new.self c.begin.new.d b) c.in-Refused.is e.answer)
    (record { hv = e.hv; others = e.others; shares = e.shares }))
