use Rattle.std.proofs.Common.{◌<◌, ◌≤◌, [], ℕ, List, Some, ap, sym, ◌∙◌, subst, arith}
use Rattle.neph_pool.specs.declared.entry.Hold.TheVariants.{Sole}
use Rattle.neph_heap.specs.Holds.{times, HoldsAmong}
use Rattle.neph_heap.specs.Heap.{IsHeap}
use Rattle.neph_heap.proofs.Heaps.{heap_named, not_first, off_once, off_zero}
use Rattle.neph_heap.proofs.Filling.{IsGathered, IsGiven, gather, gathered_may, gathered_room, give}
use Rattle.neph_heap.proofs.heap.Heap.fresh_seat.Given as given
use Rattle.neph_heap.proofs.heap.Heap.fresh_seat.Goals.{After-deref-2}
use Rattle.neph_heap.proofs.heap.Heap.fresh_seat.Goals as goal

-- the heap's seat gave up the name
named : (g : given.Over) (c : goal.After-deref g) → IsHeap g.P.FramePool.world c.fresh.new.self c.fresh.new.s c.args.self.now.stock []
named g c =
    let W = g.P.FramePool.world in
    let s = c.args.self.now.seat in
    let new = c.in_ok-seat.ensures in
    heap_named W c.args.pool.now c.fresh.new.self s c.fresh.new.s c.args.self.now.stock [] c.requires.heap new.seat (ap (λ ns. ns 0) new.names ∙ not_first (W.names s) c.args.id c.requires.other c.requires.heap.first) new.others.frames new.entries

pub retake_all-requires-clause-once : goal.retake_all-requires-clause-once
retake_all-requires-clause-once g c = λ f.
    subst (λ (ys : List ℕ). times f ys ≤ 1) (sym c.deref.ensures.value)
    (off_once g.P.FramePool.world c.fresh.new.self c.fresh.new.s c.args.self.now.stock c.move_free.new.self [] c.move_free.new.into.items (named g c) c.move_free.ensures.free f).0

pub retake_all-requires-clause-zero : goal.retake_all-requires-clause-zero
retake_all-requires-clause-zero g c = λ f lt.
    off_zero g.P.FramePool.world c.fresh.new.self c.fresh.new.s c.args.self.now.stock c.move_free.new.self [] c.move_free.new.into.items (named g c) c.move_free.ensures.free f
    (subst (λ (ys : List ℕ). 0 < times f ys) c.deref.ensures.value lt)

gathered : (g : given.Over) (c : After-deref-2 g)
    → IsGathered g.P.FramePool.world c.args.pool.now c.args.self.now.seat c.args.self.now.stock c.args.id c.retake_all.new.pool c.retake_all.new.seat c.in_ok-seat.seat c.move_free.new.self c.move_free.new.into.items
gathered g c =
    let W = g.P.FramePool.world in
    let p = c.fresh.new.self in
    let s = c.fresh.new.s in
    let q = c.retake_all.new.pool in
    let t = c.retake_all.new.seat in
    let new = c.in_ok-seat.ensures in
    let holds = subst (λ (ys : List ℕ). HoldsAmong ys (Some Sole) (W.entries p s) (W.entries q t)) c.deref.ensures.value c.retake_all.ensures.holds in
    gather W c.args.pool.now p q c.args.self.now.seat s t c.in_ok-seat.seat c.args.self.now.stock c.move_free.new.self c.args.id c.move_free.new.into.items c.requires.heap c.requires.name c.requires.other new.new new.seat new.names new.entries new.others c.move_free.ensures.free c.move_free.ensures.rest c.retake_all.ensures.moves holds c.retake_all.ensures.words

pub hand-requires-clause-part : goal.hand-requires-clause-part
hand-requires-clause-part g c =
    gathered_may g.P.FramePool.world c.args.pool.now c.args.self.now.seat c.args.self.now.stock c.args.id c.retake_all.new.pool c.retake_all.new.seat c.in_ok-seat.seat c.move_free.new.self c.move_free.new.into.items c.deref-2.result.now (gathered g c) c.deref-2.ensures.value

pub hand-requires-clause-room : goal.hand-requires-clause-room
hand-requires-clause-room g c =
    gathered_room g.P.FramePool.world c.args.pool.now c.args.self.now.seat c.args.self.now.stock c.args.id c.retake_all.new.pool c.retake_all.new.seat c.in_ok-seat.seat c.move_free.new.self c.move_free.new.into.items c.deref-2.result.now (gathered g c) c.deref-2.ensures.value
    (subst (λ (k : ℕ). k < 64) c.get-number.ensures.value c.get-number.ensures.range) (let n = c.move_free.ensures.count in let k = c.requires.room in omega arith)

handed : (g : given.Over) (c : goal.After-hand g)
    → IsGathered g.P.FramePool.world c.args.pool.now c.args.self.now.seat c.args.self.now.stock c.args.id c.retake_all.new.pool c.retake_all.new.seat c.in_ok-seat.seat c.move_free.new.self c.move_free.new.into.items
    → IsGiven g.P.FramePool.world c.args.pool.now c.args.self.now.seat c.args.self.now.stock c.args.id c.hand.new.self c.hand.new.from c.hand.new.to c.move_free.new.self c.move_free.new.into.items
handed g c got =
    let q = c.retake_all.new.pool in
    let t = c.retake_all.new.seat in
    let u = c.in_ok-seat.seat in
    let shaped = g.met.P.FramePool.shaped in
    let done = c.hand.ensures in
    give g.P.FramePool.world c.args.pool.now c.args.self.now.seat c.args.self.now.stock c.args.id q c.hand.new.self t c.hand.new.from u c.hand.new.to c.move_free.new.self c.move_free.new.into.items c.deref-2.result.now got c.requires.name c.deref-2.ensures.value (shaped q t got.heap.fits) (shaped q u got.fits) done.from done.to done.left done.moved done.others

pub returns-clause-heap : goal.returns-clause-heap
returns-clause-heap g c = (handed g c (gathered g (goal.at.returns-clause-heap g c).After-deref-2)).heap

pub returns-clause-made : goal.returns-clause-made
returns-clause-made g c = (handed g c (gathered g (goal.at.returns-clause-made g c).After-deref-2)).made

pub returns-clause-pages : goal.returns-clause-pages
returns-clause-pages g c = (handed g c (gathered g (goal.at.returns-clause-pages g c).After-deref-2)).shown

pub returns-clause-others : goal.returns-clause-others
returns-clause-others g c = (handed g c (gathered g (goal.at.returns-clause-others g c).After-deref-2)).spares
