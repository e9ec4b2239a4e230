use Rattle.std.proofs.Common.{◌≡◌, ◌∷◌, [], ap, ◌∙◌, Some}
use Rattle.neph_pool.specs.Entries.{hold_at, is_here}
use Rattle.neph_pool.specs.declared.entry.Hold.TheVariants.{Zero, Sole}
use Rattle.neph_heap.specs.Lists.{Lists}
use Rattle.neph_heap.specs.Pages.{pages_in}
use Rattle.neph_heap.proofs.Among.{words_held, among_one}
use Rattle.neph_heap.proofs.Counting.{times_one}
use Rattle.neph_heap.proofs.Shown.{pages_same}
use Rattle.neph_heap.proofs.Heaps.{heap_retaken, off_zero}
use Rattle.neph_heap.proofs.heap.Heap.take.Goals as goal

pub returns-clause-heap : goal.returns-clause-heap
returns-clause-heap g c =
    let W = g.P.FramePool.world in
    let f = c.in_ok-f.f in
    let es = W.entries c.args.pool.now c.args.self.now.seat in
    let kept : hold_at es f ≡ Some Zero = off_zero W c.args.pool.now c.args.self.now.seat c.args.self.now.stock c.pop_free.new.self [] (f ∷ []) c.requires.heap c.in_ok-f.ensures.free f (times_one f) in
    heap_retaken W c.args.pool.now c.retake.new.self c.args.self.now.seat c.retake.new.s c.args.self.now.stock c.pop_free.new.self (f ∷ []) c.requires.heap c.retake.ensures.moves.fits c.retake.ensures.moves.names c.retake.ensures.moves.others.frames c.in_ok-f.ensures.free c.in_ok-f.ensures.rest
    (among_one f Sole es (W.entries c.retake.new.self c.retake.new.s) c.retake.ensures.entries (ap is_here kept))

pub returns-clause-pages : goal.returns-clause-pages
returns-clause-pages g c =
    let W = g.P.FramePool.world in
    let es = W.entries c.args.pool.now c.args.self.now.seat in
    let fs = W.entries c.retake.new.self c.retake.new.s in
    ap (λ (l : Lists). pages_in fs l.exposed) c.in_ok-f.ensures.rest
    ∙ pages_same es fs c.args.self.now.stock.exposed (λ k lt. words_held es fs c.in_ok-f.f Sole c.retake.ensures.entries k)
