use Rattle.std.proofs.Common.{◌≡◌, ◌∷◌, [], true, false, set, refl, sym, ap, ◌∙◌, subst, arith}
use Rattle.std.specs.Prelude.{is_some}
use Rattle.std.specs.FinMap as fm
use Rattle.neph_model.specs.Machine.{Exposed}
use Rattle.neph_heap.specs.Lists.{Lists, exposed_of, pages_but}
use Rattle.neph_heap.specs.Heap.{IsHeap}
use Rattle.neph_heap.specs.Pages.{pages_in}
use Rattle.neph_heap.proofs.Heaps.{heap_relisted, page_frame, exposed_sole}
use Rattle.neph_heap.proofs.Listing.{fewer_pages, map_fewer, fewer_frames}
use Rattle.neph_heap.proofs.Maps.{pages_at, pages_set, shown_is, shown_bytes}
use Rattle.neph_heap.proofs.heap.Heap.unexpose.Goals as goal

pub unreachable-requires : goal.unreachable-requires
unreachable-requires g c =
    let W = g.P.FramePool.world in
    let l = c.args.self.now.stock in
    let there = shown_is (W.entries c.args._pool.now c.args.self.now.seat) l.exposed c.args.id c.args.pfn in
    let clash : true ≡ false = sym c.requires.there ∙ there ∙ ap is_some (sym c.in_default.ensures.frame) in cc

pub returns-clause-heap : goal.returns-clause-heap
returns-clause-heap g c =
    let W = g.P.FramePool.world in
    let p = c.args._pool.now in
    let s = c.args.self.now.seat in
    let l = c.args.self.now.stock in
    let f = c.in-Some.frame in
    let xs = exposed_of c.args.id l in
    let are = c.requires.heap.pages c.args.id in
    subst (λ (k : Lists). IsHeap W p s k (f ∷ [])) (sym c.remove_exposed.ensures.now)
    (heap_relisted W p s l c.args.id (pages_but c.args.pfn xs) [] (f ∷ []) c.requires.heap c.remove_exposed.ensures.range
    (λ h. let fewer = fewer_frames c.args.pfn f h xs (are.once c.args.pfn) (sym c.in-Some.ensures.frame) in omega arith)
    (fewer_pages c.args.pfn xs are))

pub returns-clause-sole : goal.returns-clause-sole
returns-clause-sole g c =
    let W = g.P.FramePool.world in
    let p = c.args._pool.now in
    let s = c.args.self.now.seat in
    let l = c.args.self.now.stock in
    let f = c.in-Some.frame in
    (exposed_sole W p s l [] c.requires.heap f (page_frame W p s l [] c.args.id c.args.pfn f c.requires.heap c.in-Some.ensures.range (sym c.in-Some.ensures.frame))).0

pub returns-clause-bytes : goal.returns-clause-bytes
returns-clause-bytes g c =
    let W = g.P.FramePool.world in
    let l = c.args.self.now.stock in
    sym (shown_bytes (W.entries c.args._pool.now c.args.self.now.seat) l.exposed c.args.id c.args.pfn c.in-Some.frame (sym c.in-Some.ensures.frame))

pub returns-clause-pages : goal.returns-clause-pages
returns-clause-pages g c =
    let es = g.P.FramePool.world.entries c.args._pool.now c.args.self.now.seat in
    let l = c.args.self.now.stock in
    let id = c.args.id in
    let xs = exposed_of id l in
    ap (λ (k : Lists). pages_in es k.exposed) c.remove_exposed.ensures.now
    ∙ pages_set es es l.exposed id (pages_but c.args.pfn xs) (λ f lt. refl)
    ∙ ap (λ (m : Exposed). set (pages_in es l.exposed) id m) (map_fewer es xs c.args.pfn ∙ ap (λ (m : Exposed). fm.remove m c.args.pfn) (sym (pages_at es l.exposed id)))
