use Rattle.std.proofs.Common.{◌≡◌, ◌<◌, ◌≤◌, ◌++◌, [], ℕ, List, length, set, Some, ap, sym, ◌∙◌, subst, arith}
use Rattle.std.proofs.lemmas.List.{get_or-set_same}
use Rattle.neph_pool.specs.declared.entry.Hold.TheVariants.{Sole}
use Rattle.neph_model.specs.Start.{start_exposed}
use Rattle.neph_heap.specs.Lists.{Lists, exposed_of, frames_of}
use Rattle.neph_heap.specs.Holds.{times, HoldsAmong}
use Rattle.neph_heap.specs.Heap.{IsHeap}
use Rattle.neph_heap.specs.Pages.{pages_in}
use Rattle.neph_heap.proofs.Maps.{pages_set}
use Rattle.neph_heap.proofs.Filled.{laid_map, laid_pages}
use Rattle.neph_heap.proofs.Heaps.{heap_retaken, heap_worded, heap_laid, off_once, off_zero, loose_sole, loose_once, exposed_sole}
use Rattle.neph_heap.proofs.heap.Heap.expose_devices.Given as given
use Rattle.neph_heap.proofs.heap.Heap.expose_devices.Goals.{After-deref-2, After-set_exposed}
use Rattle.neph_heap.proofs.heap.Heap.expose_devices.Goals as goal

pub retake_all-requires-clause-once : goal.retake_all-requires-clause-once
retake_all-requires-clause-once g c = λ f.
    subst (λ (ys : List ℕ). times f ys ≤ 1) (sym c.deref.ensures.value)
    (off_once g.P.FramePool.world c.args.pool.now c.args.self.now.seat c.args.self.now.stock c.move_free.new.self [] c.move_free.new.into.items c.requires.heap c.move_free.ensures.free f).0

pub retake_all-requires-clause-zero : goal.retake_all-requires-clause-zero
retake_all-requires-clause-zero g c = λ f lt.
    off_zero g.P.FramePool.world c.args.pool.now c.args.self.now.seat c.args.self.now.stock c.move_free.new.self [] c.move_free.new.into.items c.requires.heap c.move_free.ensures.free f
    (subst (λ (ys : List ℕ). 0 < times f ys) c.deref.ensures.value lt)

pub zero_pages-requires-clause-count : goal.zero_pages-requires-clause-count
zero_pages-requires-clause-count g c = ap length c.deref-2.ensures.value ∙ c.move_free.ensures.count

-- the frames are loose, off the free list and exposed to no domain yet
loose : (g : given.Over) (c : After-deref-2 g) → IsHeap g.P.FramePool.world c.retake_all.new.pool c.retake_all.new.seat c.move_free.new.self c.move_free.new.into.items
loose g c =
    let W = g.P.FramePool.world in
    let p = c.args.pool.now in
    let s = c.args.self.now.seat in
    let q = c.retake_all.new.pool in
    let t = c.retake_all.new.seat in
    let holds = subst (λ (ys : List ℕ). HoldsAmong ys (Some Sole) (W.entries p s) (W.entries q t)) c.deref.ensures.value c.retake_all.ensures.holds in
    let moves = c.retake_all.ensures.moves in
    heap_retaken W p q s t c.args.self.now.stock c.move_free.new.self c.move_free.new.into.items c.requires.heap moves.fits moves.names moves.others.frames c.move_free.ensures.free c.move_free.ensures.rest holds

pub zero_pages-requires-clause-sole : goal.zero_pages-requires-clause-sole
zero_pages-requires-clause-sole g c = λ f lt.
    loose_sole g.P.FramePool.world c.retake_all.new.pool c.retake_all.new.seat c.move_free.new.self c.move_free.new.into.items (loose g (goal.at.zero_pages-requires-clause-sole g c).After-deref-2) f (subst (λ (ys : List ℕ). 0 < times f ys) c.deref-2.ensures.value lt)

pub zero_pages-requires-clause-once : goal.zero_pages-requires-clause-once
zero_pages-requires-clause-once g c = λ f.
    subst (λ (ys : List ℕ). times f ys ≤ 1) (sym c.deref-2.ensures.value) (loose_once g.P.FramePool.world c.retake_all.new.pool c.retake_all.new.seat c.move_free.new.self c.move_free.new.into.items (loose g (goal.at.zero_pages-requires-clause-once g c).After-deref-2) f)

-- the lists at the end
lists : (g : given.Over) (c : After-set_exposed g)
    → c.set_exposed.new.self ≡ record c.move_free.new.self { exposed = set c.move_free.new.self.exposed c.args.id c.zero_pages.new.born.items }
lists g c =
    let m = c.move_free.new.self in
    c.set_exposed.ensures.now ∙ ap (λ zs. record m { exposed = set m.exposed c.args.id zs }) c.of.ensures

laid : (g : given.Over) (c : After-set_exposed g) → exposed_of c.args.id c.set_exposed.new.self ≡ c.zero_pages.new.born.items
laid g c =
    let m = c.move_free.new.self in
    let fit : c.args.id < length m.exposed = omega (arith, c.set_exposed.ensures.range, c.requires.heap.domains, ap (λ (k : Lists). length k.exposed) c.move_free.ensures.rest) in
    ap (λ (k : Lists). exposed_of c.args.id k) (lists g c) ∙ get_or-set_same m.exposed c.args.id c.zero_pages.new.born.items [] fit

pub returns-clause-heap : goal.returns-clause-heap
returns-clause-heap g c =
    let W = g.P.FramePool.world in
    let m = c.move_free.new.self in
    let xs = c.move_free.new.into.items in
    let r = c.zero_pages.new.pool in
    let u = c.zero_pages.new.seat in
    let born = c.zero_pages.new.born.items in
    let zeroed : IsHeap W r u m xs = heap_worded W c.retake_all.new.pool r c.retake_all.new.seat u m xs (loose g (goal.at.returns-clause-heap g c).After-deref-2) c.zero_pages.ensures.moves c.zero_pages.ensures.holds in
    subst (λ (k : Lists). IsHeap W r u k []) (sym (lists g (goal.at.returns-clause-heap g c).After-set_exposed)) (heap_laid W r u m c.args.id born xs zeroed c.set_exposed.ensures.range (ap (λ (k : Lists). exposed_of c.args.id k) c.move_free.ensures.rest ∙ c.requires.none) (c.zero_pages.ensures.frames ∙ c.deref-2.ensures.value) (laid_pages (W.entries r u) born c.zero_pages.ensures.pages))

pub returns-clause-pages : goal.returns-clause-pages
returns-clause-pages g c =
    let W = g.P.FramePool.world in
    let id = c.args.id in
    let m = c.move_free.new.self in
    let xs = c.move_free.new.into.items in
    let born = c.zero_pages.new.born.items in
    let es = W.entries c.args.pool.now c.args.self.now.seat in
    let fs = W.entries c.zero_pages.new.pool c.zero_pages.new.seat in
    ap (λ (k : Lists). pages_in fs k.exposed) (lists g (goal.at.returns-clause-pages g c).After-set_exposed)
    ∙ pages_set es fs m.exposed id born (λ f lt.
    let e = exposed_sole W c.retake_all.new.pool c.retake_all.new.seat m xs (loose g (goal.at.returns-clause-pages g c).After-deref-2) f lt in
    let z : times f xs ≡ 0 = omega (arith, e.2) in
    c.zero_pages.ensures.words f (ap (λ (ys : List ℕ). times f ys) c.deref-2.ensures.value ∙ z) ∙ c.retake_all.ensures.words f)
    ∙ ap (λ n. set (pages_in es m.exposed) id n) (laid_map fs born c.zero_pages.ensures.pages) ∙ ap (λ (k : Lists). set (pages_in es k.exposed) id start_exposed) c.move_free.ensures.rest

pub returns-clause-free : goal.returns-clause-free
returns-clause-free g c =
    let at = (goal.at.returns-clause-free g c).After-set_exposed in
    let here = ap frames_of (laid g at) ∙ c.zero_pages.ensures.frames ∙ c.deref-2.ensures.value in
    c.move_free.ensures.free ∙ ap (λ (ys : List ℕ). c.move_free.new.self.free ++ ys) (sym here) ∙ ap (λ (k : Lists). k.free ++ frames_of (exposed_of c.args.id c.set_exposed.new.self)) (sym (lists g at))

pub returns-clause-rest : goal.returns-clause-rest
returns-clause-rest g c =
    let l = c.args.self.now.stock in
    let id = c.args.id in
    let at = (goal.at.returns-clause-rest g c).After-set_exposed in
    lists g at ∙ ap (λ (k : Lists). record k { exposed = set k.exposed id c.zero_pages.new.born.items }) c.move_free.ensures.rest
    ∙ ap (λ zs. record l { free = c.move_free.new.self.free; exposed = set l.exposed id zs }) (sym (laid g at)) ∙ ap (λ (k : Lists). record l { free = k.free; exposed = set l.exposed id (exposed_of id c.set_exposed.new.self) }) (sym (lists g at))
