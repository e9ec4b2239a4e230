use Rattle.std.proofs.Common.{◌≡◌, [], true, false, sym, ap, ◌∙◌}
use Rattle.neph_model.specs.Trap.{is_exposed}
use Rattle.neph_pool.specs.Entries.{hold_at, is_here, is_whole}
use Rattle.neph_pool.specs.Handing.{moved_hold}
use Rattle.neph_pool.proofs.Parts.{hold_at-taking, place_of}
use Rattle.neph_pool.proofs.Walks.{among_here, moved_one, may_one}
use Rattle.neph_heap.specs.Loose.{TakesFrame}
use Rattle.neph_heap.proofs.Loose.{comes}
use Rattle.neph_heap.proofs.tests.lent_page.Given as given
use Rattle.neph_heap.proofs.tests.lent_page.Goals.{After-hand}
use Rattle.neph_heap.proofs.tests.lent_page.Goals as goal

pub hand-requires-clause-part : goal.hand-requires-clause-part
hand-requires-clause-part g c =
    may_one _ _ c.args.page.frame (ap is_here c.requires.sole, λ w. absurd (let clash : true ≡ false = sym (ap is_whole c.requires.sole) ∙ w in cc))

pub hand-requires-clause-room : goal.hand-requires-clause-room
hand-requires-clause-room g c = λ no'. absurd (let clash : true ≡ false = sym c.requires.heap.first ∙ no' in cc)

-- the frame came as the law wants it
took : (g : given.Over) (c : After-hand g)
    → TakesFrame g.P.FramePool.world c.args.pool.now c.args.seat.now c.args.heap.now.seat c.hand.new.self c.hand.new.to c.args.page.frame
took g c =
    let W = g.P.FramePool.world in
    let es = W.entries c.args.pool.now c.args.seat.now in
    let to = W.entries c.args.pool.now c.args.heap.now.seat in
    let f = c.args.page.frame in
    let moved = c.hand.ensures.moved ∙ moved_one es to f in
    let shaped = g.met.P.FramePool.shaped c.args.pool.now in
    let fit = place_of es to f ((shaped c.args.heap.now.seat c.requires.heap.fits).places ∙ sym (shaped c.args.seat.now c.requires.seat.0).places) (ap is_here c.requires.sole) in record {
      absent = c.hand.ensures.absent f (among_here f []);
      sole = ap (λ xs. hold_at xs f) moved ∙ hold_at-taking es to f fit ∙ ap moved_hold c.requires.sole;
      taken = moved;
      stays = c.hand.ensures.to;
      frames = c.hand.ensures.others.frames;
    }

pub expose-requires-clause-heap : goal.expose-requires-clause-heap
expose-requires-clause-heap g c =
    (comes g.P.FramePool.world c.args.pool.now c.hand.new.self c.args.seat.now c.args.heap.now.seat c.hand.new.to c.args.heap.now.stock c.args.page.frame c.requires.heap (took g (goal.at.expose-requires-clause-heap g c).After-hand)).0

pub expose-requires-clause-absent : goal.expose-requires-clause-absent
expose-requires-clause-absent g c =
    ap (λ pages. is_exposed pages c.args.id c.args.page.pfn)
    (comes g.P.FramePool.world c.args.pool.now c.hand.new.self c.args.seat.now c.args.heap.now.seat c.hand.new.to c.args.heap.now.stock c.args.page.frame c.requires.heap (took g (goal.at.expose-requires-clause-absent g c).After-hand)).1
    ∙ c.requires.absent
