use Rattle.std.proofs.Common.{◌≡◌, ◌++◌, ◌∷◌, [], None, set, refl, sym, ap, ◌∙◌, subst, arith}
use Rattle.std.specs.FinMap as fm
use Rattle.neph_model.specs.Machine.{Exposed}
use Rattle.neph_pool.specs.Bytes.{bytes_at}
use Rattle.neph_heap.specs.Lists.{Lists, exposed_of, frame_in}
use Rattle.neph_heap.specs.Heap.{IsHeap}
use Rattle.neph_heap.specs.Pages.{pages_in}
use Rattle.neph_heap.proofs.Heaps.{heap_relisted}
use Rattle.neph_heap.proofs.Listing.{unseen, more_pages, map_more, times_more_frames}
use Rattle.neph_heap.proofs.Maps.{pages_at, pages_set, shown_is}
use Rattle.neph_heap.proofs.heap.Heap.expose.Given as given
use Rattle.neph_heap.proofs.heap.Heap.expose.Goals.{After-add_exposed}
use Rattle.neph_heap.proofs.heap.Heap.expose.Goals as goal

-- the domain has no page with this number yet
new : (g : given.Over) (c : After-add_exposed g) → frame_in c.args.page.pfn (exposed_of c.args.id c.args.self.now.stock) ≡ None
new g c =
    let es = g.P.FramePool.world.entries c.args._pool.now c.args.self.now.seat in
    unseen _ (sym (shown_is es c.args.self.now.stock.exposed c.args.id c.args.page.pfn) ∙ c.requires.absent)

pub returns-clause-heap : goal.returns-clause-heap
returns-clause-heap g c =
    let W = g.P.FramePool.world in
    let p = c.args._pool.now in
    let s = c.args.self.now.seat in
    let l = c.args.self.now.stock in
    let x = c.args.page in
    let xs = exposed_of c.args.id l in
    subst (λ (k : Lists). IsHeap W p s k []) (sym c.add_exposed.ensures.now)
    (heap_relisted W p s l c.args.id (xs ++ x ∷ []) (x.frame ∷ []) [] c.requires.heap c.add_exposed.ensures.range
    (λ f. let more = times_more_frames f xs x in omega arith)
    (more_pages xs x (c.requires.heap.pages c.args.id) (new g (goal.at.returns-clause-heap g c).After-add_exposed) c.add_exposed.ensures.numbers))

pub returns-clause-pages : goal.returns-clause-pages
returns-clause-pages g c =
    let es = g.P.FramePool.world.entries c.args._pool.now c.args.self.now.seat in
    let l = c.args.self.now.stock in
    let id = c.args.id in
    let x = c.args.page in
    let xs = exposed_of id l in
    ap (λ (k : Lists). pages_in es k.exposed) c.add_exposed.ensures.now
    ∙ pages_set es es l.exposed id (xs ++ x ∷ []) (λ f lt. refl)
    ∙ ap (λ (m : Exposed). set (pages_in es l.exposed) id m)
    (map_more es xs x (new g (goal.at.returns-clause-pages g c).After-add_exposed) ∙ ap (λ (m : Exposed). fm.insert m x.pfn (bytes_at es x.frame)) (sym (pages_at es l.exposed id)))
