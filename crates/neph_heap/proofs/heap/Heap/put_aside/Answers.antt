use Rattle.std.proofs.Common.{◌≡◌, ◌<◌, ◌≤◌, [], ℕ, List, set, Some, ap, sym, ◌∙◌, subst}
use Rattle.neph_pool.specs.declared.entry.Hold.TheVariants.{Sole}
use Rattle.neph_heap.specs.Lists.{Lists, aside_of}
use Rattle.neph_heap.specs.Holds.{times, HoldsAmong}
use Rattle.neph_heap.specs.Heap.{IsHeap}
use Rattle.neph_heap.specs.Pages.{pages_in}
use Rattle.neph_heap.proofs.Heaps.{heap_retaken, heap_set_aside, off_once, off_zero, filled_still, without_within, spares_widen, spares_then, apart_left}
use Rattle.neph_heap.proofs.Filling.{shown_retaken}
use Rattle.neph_heap.proofs.heap.Heap.put_aside.Goals as goal

pub retake_all-requires-clause-once : goal.retake_all-requires-clause-once
retake_all-requires-clause-once g c =
    let W = g.P.FramePool.world in
    let p = c.fresh_seat.new.pool in
    let s = c.fresh_seat.new.self.seat in
    let l = c.fresh_seat.new.self.stock in
    let m = c.move_free.new.self in
    let xs = c.move_free.new.into.items in
    λ f. subst (λ (ys : List ℕ). times f ys ≤ 1) (sym c.deref.ensures.value) (off_once W p s l m [] xs c.in_ok-made.ensures.heap c.move_free.ensures.free f).0

pub retake_all-requires-clause-zero : goal.retake_all-requires-clause-zero
retake_all-requires-clause-zero g c =
    let W = g.P.FramePool.world in
    let p = c.fresh_seat.new.pool in
    let s = c.fresh_seat.new.self.seat in
    let l = c.fresh_seat.new.self.stock in
    let m = c.move_free.new.self in
    let xs = c.move_free.new.into.items in
    λ f lt. off_zero W p s l m [] xs c.in_ok-made.ensures.heap c.move_free.ensures.free f (subst (λ (ys : List ℕ). 0 < times f ys) c.deref.ensures.value lt)

pub returns-clause-heap : goal.returns-clause-heap
returns-clause-heap g c =
    let W = g.P.FramePool.world in
    let p = c.fresh_seat.new.pool in
    let s = c.fresh_seat.new.self.seat in
    let l = c.fresh_seat.new.self.stock in
    let m = c.move_free.new.self in
    let xs = c.move_free.new.into.items in
    let q = c.retake_all.new.pool in
    let t = c.retake_all.new.seat in
    let moves = c.retake_all.ensures.moves in
    let holds : HoldsAmong xs (Some Sole) (W.entries p s) (W.entries q t) = subst (λ (ys : List ℕ). HoldsAmong ys (Some Sole) (W.entries p s) (W.entries q t)) c.deref.ensures.value c.retake_all.ensures.holds in
    let taken : IsHeap W q t m xs = heap_retaken W p q s t l m xs c.in_ok-made.ensures.heap moves.fits moves.names moves.others.frames c.move_free.ensures.free c.move_free.ensures.rest holds in
    let none : aside_of c.args.child m ≡ [] = ap (λ (k : Lists). aside_of c.args.child k) (c.move_free.ensures.rest ∙ ap (λ (k : Lists). record k { free = m.free }) c.in_ok-made.ensures.rest) ∙ c.requires.none in
    heap_set_aside W q t m c.set_aside.new.self c.args.child xs taken c.set_aside.ensures.range none (c.set_aside.ensures.now ∙ ap (λ (ys : List ℕ). record m { aside = set m.aside c.args.child ys }) c.of.ensures)

pub returns-clause-made : goal.returns-clause-made
returns-clause-made g c =
    let W = g.P.FramePool.world in
    let p = c.fresh_seat.new.pool in
    let s = c.fresh_seat.new.self.seat in
    let l = c.fresh_seat.new.self.stock in
    let m = c.move_free.new.self in
    let xs = c.move_free.new.into.items in
    filled_still W (W.names s) p c.retake_all.new.pool c.in_ok-made.made.0 c.args.child c.in_ok-made.made.1.items c.in_ok-made.ensures.made c.retake_all.ensures.moves.others
    (apart_left (W.names c.args.self.now.seat) (W.names s) c.args.child c.in_ok-made.ensures.names)

pub returns-clause-pages : goal.returns-clause-pages
returns-clause-pages g c =
    let W = g.P.FramePool.world in
    let p = c.fresh_seat.new.pool in
    let s = c.fresh_seat.new.self.seat in
    let l = c.fresh_seat.new.self.stock in
    let m = c.move_free.new.self in
    let xs = c.move_free.new.into.items in
    let k : c.set_aside.new.self.exposed ≡ l.exposed = ap (λ (n : Lists). n.exposed) c.set_aside.ensures.now ∙ ap (λ (n : Lists). n.exposed) c.move_free.ensures.rest in
    ap (λ xss. pages_in (W.entries c.retake_all.new.pool c.retake_all.new.seat) xss) k ∙ shown_retaken W p c.retake_all.new.pool s c.retake_all.new.seat l c.retake_all.ensures.words ∙ c.in_ok-made.ensures.pages

pub returns-clause-others : goal.returns-clause-others
returns-clause-others g c =
    let W = g.P.FramePool.world in
    let p = c.fresh_seat.new.pool in
    let s = c.fresh_seat.new.self.seat in
    let l = c.fresh_seat.new.self.stock in
    let m = c.move_free.new.self in
    let xs = c.move_free.new.into.items in
    let ns = W.names c.args.self.now.seat in
    spares_then W ns c.args.pool.now p c.retake_all.new.pool c.in_ok-made.ensures.others
    (spares_widen W ns (W.names s) p c.retake_all.new.pool (λ e x. without_within ns c.args.child e (sym (ap (λ f. f e) c.in_ok-made.ensures.names) ∙ x)) c.retake_all.ensures.moves.others)
