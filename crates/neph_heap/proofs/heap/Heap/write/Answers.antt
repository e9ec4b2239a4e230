use Rattle.std.proofs.Common.{◌≡◌, ◌<◌, ◌≤◌, [], ℕ, true, false, List, length, ap, sym, ◌∙◌, arith}
use Rattle.std.specs.Prelude.{is_some}
use Rattle.std.specs.declared.option.Option.{Option}
use Rattle.neph_pool.specs.declared.entry.Entry.{Entry}
use Rattle.neph_pool.specs.Entries.{hold_at, words_at}
use Rattle.neph_pool.proofs.Entries.{hold_at-with_words, words_at-with_words_other}
use Rattle.neph_model.specs.Memory.{page_with_bytes}
use Rattle.neph_model.specs.Trap.{exposed_bytes}
use Rattle.neph_heap.specs.Lists.{exposed_frames}
use Rattle.neph_heap.specs.Holds.{times}
use Rattle.neph_heap.specs.Pages.{pages_in}
use Rattle.neph_heap.proofs.Maps.{shown_is, shown_bytes, pages_put}
use Rattle.neph_heap.proofs.Heaps.{heap_worded, page_frame, exposed_sole}
use Rattle.neph_heap.proofs.heap.Heap.write.Goals as goal

pub unreachable-requires : goal.unreachable-requires
unreachable-requires g c =
    let W = g.P.FramePool.world in
    let l = c.args.self.now.stock in
    let there = shown_is (W.entries c.args.pool.now c.args.self.now.seat) l.exposed c.args.id c.args.pfn in
    let clash : true ≡ false = sym c.requires.there ∙ there ∙ ap is_some (sym c.in_default.ensures.frame) in cc

pub write_bytes-requires-clause-frame : goal.write_bytes-requires-clause-frame
write_bytes-requires-clause-frame g c =
    let W = g.P.FramePool.world in
    let l = c.args.self.now.stock in
    let f = c.in-Some.frame in
    (exposed_sole W c.args.pool.now c.args.self.now.seat l [] c.requires.heap f (page_frame W c.args.pool.now c.args.self.now.seat l [] c.args.id c.args.pfn f c.requires.heap c.in-Some.ensures.range (sym c.in-Some.ensures.frame))).0

pub returns-clause-heap : goal.returns-clause-heap
returns-clause-heap g c =
    let W = g.P.FramePool.world in
    let es = W.entries c.args.pool.now c.args.self.now.seat in
    heap_worded W c.args.pool.now c.write_bytes.new.pool c.args.self.now.seat c.write_bytes.new.seat c.args.self.now.stock [] c.requires.heap c.write_bytes.ensures.moves
    (λ k. ap (λ (xs : List (Option Entry)). hold_at xs k) c.write_bytes.ensures.entries ∙ hold_at-with_words es c.in-Some.frame _ k)

pub returns-clause-pages : goal.returns-clause-pages
returns-clause-pages g c =
    let W = g.P.FramePool.world in
    let p = c.args.pool.now in
    let s = c.args.self.now.seat in
    let l = c.args.self.now.stock in
    let es = W.entries p s in
    let fs = W.entries c.write_bytes.new.pool c.write_bytes.new.seat in
    let f = c.in-Some.frame in
    let named = page_frame W p s l [] c.args.id c.args.pfn f c.requires.heap c.in-Some.ensures.range (sym c.in-Some.ensures.frame) in
    let mine = exposed_sole W p s l [] c.requires.heap f named in
    let once : times f (exposed_frames l.exposed) ≤ 1 = omega (arith, mine.1) in
    let fit : c.args.id < length l.exposed = omega (arith, c.in-Some.ensures.range, c.requires.heap.domains) in
    pages_put es fs l.exposed c.args.id c.args.pfn f (page_with_bytes (exposed_bytes (pages_in es l.exposed) c.args.id c.args.pfn) c.args.at c.args.bytes.now) fit (sym c.in-Some.ensures.frame) once
    (λ k n. ap (λ (xs : List (Option Entry)). words_at xs k) c.write_bytes.ensures.entries ∙ words_at-with_words_other es f _ k n)
    (c.write_bytes.ensures.bytes ∙ ap (λ (bs : List ℕ). page_with_bytes bs c.args.at c.args.bytes.now) (sym (shown_bytes es l.exposed c.args.id c.args.pfn f (sym c.in-Some.ensures.frame))))
