use Rattle.std.proofs.Common.{◌≡◌, ◌<◌, ◌≤◌, ◌+◌, ◌++◌, [], List, length, length-append, set, Some, ap, sym, ◌∙◌, subst, arith}
use Rattle.neph_pool.specs.declared.entry.Hold.TheVariants.{Zero}
use Rattle.neph_heap.specs.declared.exposed_frame.ExposedFrame.{ExposedFrame}
use Rattle.neph_heap.specs.Lists.{Lists, exposed_of, frames_of}
use Rattle.neph_heap.specs.Holds.{times, HoldsAmong}
use Rattle.neph_heap.specs.Heap.{IsHeap}
use Rattle.neph_heap.specs.Pages.{pages_in}
use Rattle.neph_heap.proofs.Maps.{pages_set, no_page}
use Rattle.neph_heap.proofs.Heaps.{heap_ended, heap_few, ended_frames}
use Rattle.neph_heap.proofs.heap.Heap.end.Goals as goal

pub release_all-requires-clause-once : goal.release_all-requires-clause-once
release_all-requires-clause-once g c =
    let W = g.P.FramePool.world in
    let p = c.args.pool.now in
    let s = c.args.self.now.seat in
    let l = c.args.self.now.stock in
    let id = c.args.id in
    let ys = c.set_exposed-pages.result in
    let is : c.items.result.now ≡ exposed_of id l = c.items.ensures ∙ c.set_exposed-pages.ensures.was in
    λ f. subst (λ (xs : List ExposedFrame). times f (frames_of xs) ≤ 1) (sym is) (ended_frames W p s l id c.requires.heap c.set_exposed-pages.ensures.range f).0

pub release_all-requires-clause-sole : goal.release_all-requires-clause-sole
release_all-requires-clause-sole g c =
    let W = g.P.FramePool.world in
    let p = c.args.pool.now in
    let s = c.args.self.now.seat in
    let l = c.args.self.now.stock in
    let id = c.args.id in
    let ys = c.set_exposed-pages.result in
    let is : c.items.result.now ≡ exposed_of id l = c.items.ensures ∙ c.set_exposed-pages.ensures.was in
    λ f some. (ended_frames W p s l id c.requires.heap c.set_exposed-pages.ensures.range f).1 (subst (λ (xs : List ExposedFrame). 0 < times f (frames_of xs)) is some)

pub add_pages-requires : goal.add_pages-requires
add_pages-requires g c =
    let W = g.P.FramePool.world in
    let p = c.args.pool.now in
    let s = c.args.self.now.seat in
    let l = c.args.self.now.stock in
    let id = c.args.id in
    let ys = c.set_exposed-pages.result in
    let q = c.release_all.new.pool in
    let t = c.release_all.new.seat in
    let is : c.items.result.now ≡ exposed_of id l = c.items.ensures ∙ c.set_exposed-pages.ensures.was in
    let now : HoldsAmong (frames_of (exposed_of id l)) (Some Zero) (W.entries p s) (W.entries q t) = subst (λ (xs : List ExposedFrame). HoldsAmong (frames_of xs) (Some Zero) (W.entries p s) (W.entries q t)) is c.release_all.ensures.holds in
    let end = heap_ended W p q s t l id c.requires.heap c.set_exposed-pages.ensures.range c.release_all.ensures.moves now in
    let few : length (l.free ++ frames_of (exposed_of id l)) ≤ 16384 = heap_few W q t (record l { free = l.free ++ frames_of (exposed_of id l); exposed = set l.exposed id [] }) [] end (g.met.P.FramePool.shaped q t c.release_all.ensures.moves.fits) in
    let is-2 : c.items-2.result.now ≡ exposed_of id l = c.items-2.ensures ∙ c.set_exposed-pages.ensures.was in
    let left : c.set_exposed-pages.new.self.free ≡ l.free = ap (λ (k : Lists). k.free) c.set_exposed-pages.ensures.now in
    let sum : length c.set_exposed-pages.new.self.free + length (frames_of c.items-2.result.now) ≤ 16384 = omega (arith, few, length-append l.free (frames_of (exposed_of id l)), ap length left, ap (λ (xs : List ExposedFrame). length (frames_of xs)) is-2) in sum

pub returns-clause-lists : goal.returns-clause-lists
returns-clause-lists g c =
    let W = g.P.FramePool.world in
    let p = c.args.pool.now in
    let s = c.args.self.now.seat in
    let l = c.args.self.now.stock in
    let id = c.args.id in
    let ys = c.set_exposed-pages.result in
    let is-2 : c.items-2.result.now ≡ exposed_of id l = c.items-2.ensures ∙ c.set_exposed-pages.ensures.was in
    c.add_pages.ensures ∙ ap (λ (k : Lists). record k { free = k.free ++ frames_of c.items-2.result.now }) c.set_exposed-pages.ensures.now
    ∙ ap (λ (xs : List ExposedFrame). record l { free = l.free ++ frames_of xs; exposed = set l.exposed id c.no_pages-none.result }) is-2
    ∙ ap (λ (xs : List ExposedFrame). record l { free = l.free ++ frames_of (exposed_of id l); exposed = set l.exposed id xs }) c.no_pages-none.ensures

pub returns-clause-heap : goal.returns-clause-heap
returns-clause-heap g c =
    let W = g.P.FramePool.world in
    let p = c.args.pool.now in
    let s = c.args.self.now.seat in
    let l = c.args.self.now.stock in
    let id = c.args.id in
    let ys = c.set_exposed-pages.result in
    let q = c.release_all.new.pool in
    let t = c.release_all.new.seat in
    let is : c.items.result.now ≡ exposed_of id l = c.items.ensures ∙ c.set_exposed-pages.ensures.was in
    let now : HoldsAmong (frames_of (exposed_of id l)) (Some Zero) (W.entries p s) (W.entries q t) = subst (λ (xs : List ExposedFrame). HoldsAmong (frames_of xs) (Some Zero) (W.entries p s) (W.entries q t)) is c.release_all.ensures.holds in
    let end = heap_ended W p q s t l id c.requires.heap c.set_exposed-pages.ensures.range c.release_all.ensures.moves now in
    subst (λ (k : Lists). IsHeap W q t k []) (sym (returns-clause-lists g c)) end

pub returns-clause-pages : goal.returns-clause-pages
returns-clause-pages g c =
    let W = g.P.FramePool.world in
    let p = c.args.pool.now in
    let s = c.args.self.now.seat in
    let l = c.args.self.now.stock in
    let id = c.args.id in
    let ys = c.set_exposed-pages.result in
    let es = W.entries p s in
    let fs = W.entries c.release_all.new.pool c.release_all.new.seat in
    ap (λ (k : Lists). pages_in fs k.exposed) (returns-clause-lists g c)
    ∙ pages_set es fs l.exposed id [] (λ f lt. c.release_all.ensures.words f)
    ∙ ap (λ m. set (pages_in es l.exposed) id m) (no_page fs)
