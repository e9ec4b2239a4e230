use Rattle.std.proofs.Common.{◌≤◌, ◌+◌, ◌++◌, [], List, length, length-append, ap, sym, ◌∙◌, subst, arith}
use Rattle.std.specs.declared.option.Option.{Option}
use Rattle.neph_pool.specs.declared.entry.Entry.{Entry}
use Rattle.neph_pool.specs.Entries.{words_at, is_here}
use Rattle.neph_heap.specs.Lists.{Lists}
use Rattle.neph_heap.specs.Heap.{IsHeap}
use Rattle.neph_heap.specs.Pages.{pages_in}
use Rattle.neph_heap.proofs.Steps.{words_at-add}
use Rattle.neph_heap.proofs.Shown.{pages_same}
use Rattle.neph_heap.proofs.Heaps.{heap_joined, heap_few, exposed_sole}
use Rattle.neph_heap.proofs.heap.Heap.take_in.Goals as goal

pub add_free-requires : goal.add_free-requires
add_free-requires g c =
    let W = g.P.FramePool.world in
    let l = c.args.self.now.stock in
    let h : IsHeap W c.join_kept.new.pool c.join_kept.new.s (record l { free = l.free ++ c.args.frames.now }) []
    = heap_joined W c.args.pool.now c.join_kept.new.pool c.args.self.now.seat c.args.seat c.join_kept.new.s l c.args.frames.now c.requires.heap c.requires.kept c.join_kept.ensures.seat c.join_kept.ensures.names c.join_kept.ensures.others.frames c.join_kept.ensures.entries c.join_kept.ensures.absent in
    let few : length (l.free ++ c.args.frames.now) ≤ 16384 = heap_few W c.join_kept.new.pool c.join_kept.new.s (record l { free = l.free ++ c.args.frames.now }) [] h (g.met.P.FramePool.shaped _ _ c.join_kept.ensures.seat) in
    let sum : length l.free + length c.args.frames.now ≤ 16384 = omega (arith, few, length-append l.free c.args.frames.now) in sum

pub returns-clause-heap : goal.returns-clause-heap
returns-clause-heap g c =
    let W = g.P.FramePool.world in
    let l = c.args.self.now.stock in
    subst (λ (k : Lists). IsHeap W c.join_kept.new.pool c.join_kept.new.s k []) (sym c.add_free.ensures)
    (heap_joined W c.args.pool.now c.join_kept.new.pool c.args.self.now.seat c.args.seat c.join_kept.new.s l c.args.frames.now c.requires.heap c.requires.kept c.join_kept.ensures.seat c.join_kept.ensures.names c.join_kept.ensures.others.frames c.join_kept.ensures.entries c.join_kept.ensures.absent)

pub returns-clause-pages : goal.returns-clause-pages
returns-clause-pages g c =
    let W = g.P.FramePool.world in
    let l = c.args.self.now.stock in
    let es = W.entries c.args.pool.now c.args.self.now.seat in
    let os = W.entries c.args.pool.now c.args.seat in
    let fs = W.entries c.join_kept.new.pool c.join_kept.new.s in
    ap (λ (k : Lists). pages_in fs k.exposed) c.add_free.ensures
    ∙ pages_same es fs l.exposed (λ f lt.
    ap (λ (xs : List (Option Entry)). words_at xs f) c.join_kept.ensures.entries
    ∙ words_at-add es os f (ap is_here (exposed_sole W c.args.pool.now c.args.self.now.seat l [] c.requires.heap f lt).0))
