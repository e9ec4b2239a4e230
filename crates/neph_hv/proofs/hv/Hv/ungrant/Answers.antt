use Rattle.std.proofs.Common.{refl, Some, sym, ap, ◌∙◌}
use Rattle.neph_base.specs.declared.reply.Reply.TheVariants.{Done}
use Rattle.neph_model.specs.Lent.{PageBack}
use Rattle.neph_model.specs.Step.{Locked}
use Rattle.neph_model.specs.Trap.{exposed_bytes}
use Rattle.neph_rows.specs.Records.{Records, shared_of}
use Rattle.neph_rows.proofs.GrantRows.{home_row}
use Rattle.neph_hv.specs.Hv.{exposed_in}
use Rattle.neph_hv.specs.Grants.{Regains}
use Rattle.neph_hv.proofs.Granting.{named_exposed, named_gone}
use Rattle.neph_hv.proofs.hv.Hv.ungrant.Goals as goal

pub give_back-requires-clause-there : goal.give_back-requires-clause-there
give_back-requires-clause-there g c =
    named_exposed g.P.FramePool.world c.args.pool.now c.args.self.now c.args.d.now c.requires.serves c.args.reference c.in-Ok-Some.pfn c.in-Ok-Some.field-0 c.in-Ok-Some.field-0-is c.in-Ok-Some.ensures.named

pub give_back-requires-clause-away : goal.give_back-requires-clause-away
give_back-requires-clause-away g c =
    named_gone g.P.FramePool.world c.args.pool.now c.args.self.now c.args.d.now c.requires.serves c.args.reference c.in-Ok-Some.pfn c.in-Ok-Some.field-0 c.in-Ok-Some.field-0-is c.in-Ok-Some.ensures.named

pub returns-in-Ok-Some-clause-done : goal.returns-in-Ok-Some-clause-done
returns-in-Ok-Some-clause-done g c =
    let W = g.P.FramePool.world in
    let h = c.args.self.now in
    let pages = exposed_in W c.args.pool.now h in
    let pfn = c.in-Ok-Some.pfn in
    let b : PageBack = record { pfn = pfn; bytes = exposed_bytes pages c.args.d.now.id pfn } in
    let left = exposed_in W c.give_back.new.pool c.give_back.new.self in
    let back = c.give_back.ensures in
    let p = back.page in
    let regained : Regains W c.args.pool.now h c.args.d.now c.give_back.new.pool c.give_back.new.self c.give_back.new.d pfn =
    record { inside = p.inside; frame = p.frame; was = p.was; stock = p.stock; page = p.page; bytes = p.bytes; spare = p.spare; hand = p.hand; id = p.id; seat = p.seat; names = p.names } in
    let now : Records → Locked = λ r. record { shared = shared_of r left; reply = Done; back = Some b } in
    record {
      call = record { hv = back.hv; others = back.others; shares = back.shares };
      back = Some b;
      row = λ told.
          home_row h.registry c.ungrant.new.r pages c.args.d.now.id c.args.reference told pfn left c.in-Ok-Some.field-0 c.in-Ok-Some.field-0-is (c.in-Ok-Some.ensures.row pages) c.in-Ok-Some.ensures.same back.shown ∙ ap now (sym back.registry);
      memory = (regained, refl);
    }
