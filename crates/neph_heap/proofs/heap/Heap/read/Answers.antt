use Rattle.std.proofs.Common.{◌≡◌, [], ℕ, true, false, List, length, take, drop, ap, sym, ◌∙◌}
use Rattle.std.specs.Prelude.{is_some}
use Rattle.neph_pool.specs.Entries.{is_held}
use Rattle.neph_heap.specs.Pages.{pages_in}
use Rattle.neph_heap.proofs.Maps.{shown_is, shown_bytes}
use Rattle.neph_heap.proofs.Heaps.{heap_named, page_frame, exposed_sole}
use Rattle.neph_heap.proofs.heap.Heap.read.Goals as goal

pub unreachable-requires : goal.unreachable-requires
unreachable-requires g c =
    let W = g.P.FramePool.world in
    let l = c.args.self.now.stock in
    let there = shown_is (W.entries c.args.pool.now c.args.self.now.seat) l.exposed c.args.id c.args.pfn in
    let clash : true ≡ false = sym c.requires.there ∙ there ∙ ap is_some (sym c.in_default.ensures.frame) in cc

pub read_into-requires-clause-frame : goal.read_into-requires-clause-frame
read_into-requires-clause-frame g c =
    let W = g.P.FramePool.world in
    let l = c.args.self.now.stock in
    let f = c.in-Some.frame in
    ap is_held (exposed_sole W c.args.pool.now c.args.self.now.seat l [] c.requires.heap f (page_frame W c.args.pool.now c.args.self.now.seat l [] c.args.id c.args.pfn f c.requires.heap c.in-Some.ensures.range (sym c.in-Some.ensures.frame))).0

pub returns-clause-heap : goal.returns-clause-heap
returns-clause-heap g c =
    let W = g.P.FramePool.world in
    let moves = c.read_into.ensures.moves in
    heap_named W c.args.pool.now c.read_into.new.pool c.args.self.now.seat c.read_into.new.seat c.args.self.now.stock [] c.requires.heap moves.fits (ap (λ ns. ns 0) moves.names ∙ c.requires.heap.first) moves.others.frames c.read_into.ensures.entries

pub returns-clause-bytes : goal.returns-clause-bytes
returns-clause-bytes g c =
    let W = g.P.FramePool.world in
    let l = c.args.self.now.stock in
    c.read_into.ensures.bytes ∙ ap (λ (bs : List ℕ). take (length c.args.into.now) (drop c.args.at bs)) (sym (shown_bytes (W.entries c.args.pool.now c.args.self.now.seat) l.exposed c.args.id c.args.pfn c.in-Some.frame (sym c.in-Some.ensures.frame)))

pub returns-clause-pages : goal.returns-clause-pages
returns-clause-pages g c = ap (λ es. pages_in es c.args.self.now.stock.exposed) c.read_into.ensures.entries
