use Rattle.std.proofs.Common.{Ok, IfOk, Option, sym, subst}
use Rattle.neph_base.specs.declared.command.Command.{Command}
use Rattle.neph_base.specs.declared.reply.Reply.{Reply}
use Rattle.neph_local.specs.declared.forking.Fork.{Fork}
use Rattle.neph_hyper.specs.Guests.{IsAnswered}
use Rattle.neph_hv.specs.Calls.{HasTrapped}
use Rattle.neph_hv.proofs.Answering.{done_answered, clone_answered, lacked_none}
use Rattle.neph_hv.proofs.hyper.HvHyper.trap.Goals as goal

pub returns-in-Clone-clause-answer : goal.returns-in-Clone-clause-answer
returns-in-Clone-clause-answer g c =
    let W = g.P.FramePool.world in
    let p = c.args.pool.now in
    let d = c.args.d.now in
    let q = c.try_clone.new.pool in
    let e = c.try_clone.new.d in
    let begun = c.try_clone.new.begun in
    subst (λ (v : Command). IfOk c.try_clone.result (λ (r : Reply). IsAnswered W p d q e v begun r)) (sym c.in-Clone.is)
    (clone_answered W p c.args.self.now d q c.try_clone.new.self e begun c.try_clone.result c.try_clone.ensures.trapped)

pub returns-in-Clone-clause-unbegun : goal.returns-in-Clone-clause-unbegun
returns-in-Clone-clause-unbegun g c =
    lacked_none g.P.FramePool.world c.args.pool.now c.args.self.now c.args.d.now c.try_clone.new.pool c.try_clone.new.self c.try_clone.new.d c.try_clone.new.begun c.try_clone.result c.try_clone.ensures.trapped

pub returns-in_default : goal.returns-in_default
returns-in_default g c =
    let W = g.P.FramePool.world in
    let p = c.args.pool.now in
    let h = c.args.self.now in
    let d = c.args.d.now in
    let q = c.ask.new.pool in
    let k = c.ask.new.self in
    let e = c.ask.new.d in
    let none = sym c.requires.none in
    record {
      stands = c.ask.ensures.stands;
      same = c.ask.ensures.same;
      answer = subst (λ (b : Option (Fork _ _)). IsAnswered W p d q e c.args.command.now b c.ask.result) none
          (done_answered W p h d q k e c.args.command.now c.ask.result c.ask.ensures.done);
      lacks = tt;
      unbegun = tt;
      trapped = subst (λ (b : Option (Fork _ _)). HasTrapped W p h q k d e c.args.command.now b (Ok c.ask.result)) none c.ask.ensures.done;
    }
