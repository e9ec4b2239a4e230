use Rattle.std.proofs.Common.{◌≡◌, ◌<◌, [], ℕ, List, map, length, set, ap, sym, ◌∙◌, subst, arith}
use Rattle.std.proofs.lemmas.List.{get_or-set_same}
use Rattle.neph_model.specs.Births.{child_exposed}
use Rattle.neph_heap.specs.declared.exposed_frame.ExposedFrame.{ExposedFrame}
use Rattle.neph_heap.specs.Lists.{Lists, exposed_of, aside_of, frames_of}
use Rattle.neph_heap.specs.Holds.{times}
use Rattle.neph_heap.specs.Heap.{IsHeap}
use Rattle.neph_heap.specs.Pages.{pages_in, child_page_in}
use Rattle.neph_heap.proofs.Maps.{pages_set, pages_at}
use Rattle.neph_heap.proofs.Filled.{child_map, born_pages}
use Rattle.neph_heap.proofs.Heaps.{IsAsideOwn, heap_born, aside_own}
use Rattle.neph_heap.proofs.heap.Heap.bear.Given as given
use Rattle.neph_heap.proofs.heap.Heap.bear.Goals.{After-items, After-set_exposed}
use Rattle.neph_heap.proofs.heap.Heap.bear.Goals as goal

from : (g : given.Over) (c : After-items g) → c.exposed-2.result.now ≡ exposed_of c.args.parent c.args.self.now.stock
from g c = c.exposed-2.ensures.pages ∙ ap (λ (k : Lists). exposed_of c.args.parent k) c.set_aside-frames.ensures.now

to : (g : given.Over) (c : After-items g) → c.items.result.now ≡ aside_of c.args.child c.args.self.now.stock
to g c = c.items.ensures ∙ c.set_aside-frames.ensures.was

own : (g : given.Over) (c : After-items g) → (f : ℕ) → IsAsideOwn g.P.FramePool.world c.args.pool.now c.args.self.now.seat c.args.self.now.stock c.args.child c.args.parent f
own g c = aside_own g.P.FramePool.world c.args.pool.now c.args.self.now.seat c.args.self.now.stock c.args.child c.args.parent c.requires.heap c.set_aside-frames.ensures.range c.exposed-2.ensures.range

pub fill_pages-requires-clause-count : goal.fill_pages-requires-clause-count
fill_pages-requires-clause-count g c =
    let at = (goal.at.fill_pages-requires-clause-count g c).After-items in
    ap length (to g at) ∙ c.requires.may.enough ∙ sym (ap length (from g at))

pub fill_pages-requires-clause-room : goal.fill_pages-requires-clause-room
fill_pages-requires-clause-room g c =
    let at = (goal.at.fill_pages-requires-clause-room g c).After-items in
    omega (arith, c.in_ok-born.ensures.room, ap length (from g at), ap length c.exposed.ensures.pages)

pub fill_pages-requires-clause-from : goal.fill_pages-requires-clause-from
fill_pages-requires-clause-from g c = λ f some.
    let at = (goal.at.fill_pages-requires-clause-from g c).After-items in
    (own g at f).1 (subst (λ (zs : List ExposedFrame). 0 < times f (frames_of zs)) (from g at) some)

pub fill_pages-requires-clause-to : goal.fill_pages-requires-clause-to
fill_pages-requires-clause-to g c = λ f some.
    let at = (goal.at.fill_pages-requires-clause-to g c).After-items in
    (own g at f).2 (subst (λ (zs : List ℕ). 0 < times f zs) (to g at) some)

pub fill_pages-requires-clause-once : goal.fill_pages-requires-clause-once
fill_pages-requires-clause-once g c = λ f.
    let at = (goal.at.fill_pages-requires-clause-once g c).After-items in
    omega (arith, (own g at f).0, ap (λ (zs : List ExposedFrame). times f (frames_of zs)) (from g at), ap (λ (zs : List ℕ). times f zs) (to g at))

-- the lists at the end
lists : (g : given.Over) (c : After-set_exposed g)
    → c.set_exposed.new.self ≡ record c.args.self.now.stock { exposed = set c.args.self.now.stock.exposed c.args.child c.fill_pages.new.born.items; aside = set c.args.self.now.stock.aside c.args.child [] }
lists g c =
    let l = c.args.self.now.stock in
    let child = c.args.child in
    let born = c.fill_pages.new.born.items in
    c.set_exposed.ensures.now ∙ ap (λ (k : Lists). record k { exposed = set k.exposed child c.of.result }) c.set_aside-frames.ensures.now ∙ ap (λ zs. record l { exposed = set l.exposed child zs; aside = set l.aside child c.nothing-none.result }) c.of.ensures
    ∙ ap (λ zs. record l { exposed = set l.exposed child born; aside = set l.aside child zs }) c.nothing-none.ensures

same : (g : given.Over) (c : After-set_exposed g) → exposed_of c.args.child c.set_exposed.new.self ≡ c.fill_pages.new.born.items
same g c =
    let l = c.args.self.now.stock in
    let fit : c.args.child < length l.exposed = omega (arith, c.set_aside-frames.ensures.range, c.requires.heap.domains) in
    ap (λ (k : Lists). exposed_of c.args.child k) (lists g c) ∙ get_or-set_same l.exposed c.args.child c.fill_pages.new.born.items [] fit

pub returns-clause-heap : goal.returns-clause-heap
returns-clause-heap g c =
    let W = g.P.FramePool.world in
    let p = c.args.pool.now in
    let s = c.args.self.now.seat in
    let l = c.args.self.now.stock in
    let q = c.fill_pages.new.pool in
    let t = c.fill_pages.new.seat in
    let born = c.fill_pages.new.born.items in
    let at = goal.at.returns-clause-heap g c in
    let filled = c.fill_pages.ensures.pages ∙ ap (map (child_page_in (W.entries p s))) (from g at.After-items) in
    let fine = born_pages (W.entries p s) (W.entries q t) (exposed_of c.args.parent l) born filled (c.requires.heap.pages c.args.parent) in
    subst (λ (k : Lists). IsHeap W q t k []) (sym (lists g at.After-set_exposed)) (heap_born W p q s t l c.args.child born c.requires.heap c.set_aside-frames.ensures.range c.requires.may.none c.fill_pages.ensures.moves c.fill_pages.ensures.holds (c.fill_pages.ensures.frames ∙ to g at.After-items) fine)

pub returns-clause-pages : goal.returns-clause-pages
returns-clause-pages g c =
    let W = g.P.FramePool.world in
    let l = c.args.self.now.stock in
    let child = c.args.child in
    let es = W.entries c.args.pool.now c.args.self.now.seat in
    let fs = W.entries c.fill_pages.new.pool c.fill_pages.new.seat in
    let born = c.fill_pages.new.born.items in
    let at = goal.at.returns-clause-pages g c in
    let filled = c.fill_pages.ensures.pages ∙ ap (map (child_page_in es)) (from g at.After-items) in
    ap (λ (k : Lists). pages_in fs k.exposed) (lists g at.After-set_exposed)
    ∙ pages_set es fs l.exposed child born (λ f lt. c.fill_pages.ensures.words f (ap (λ (zs : List ℕ). times f zs) (to g at.After-items) ∙ (own g at.After-items f).3 lt))
    ∙ ap (λ n. set (pages_in es l.exposed) child n) (child_map es fs (exposed_of c.args.parent l) born filled ∙ ap child_exposed (sym (pages_at es l.exposed c.args.parent)))

pub returns-clause-frames : goal.returns-clause-frames
returns-clause-frames g c =
    let at = goal.at.returns-clause-frames g c in
    ap frames_of (same g at.After-set_exposed) ∙ c.fill_pages.ensures.frames ∙ to g at.After-items

pub returns-clause-rest : goal.returns-clause-rest
returns-clause-rest g c =
    let l = c.args.self.now.stock in
    let at = (goal.at.returns-clause-rest g c).After-set_exposed in
    lists g at ∙ ap (λ zs. record l { exposed = set l.exposed c.args.child zs; aside = set l.aside c.args.child [] }) (sym (same g at))
