use Rattle.std.proofs.Common.{◌≡◌, ◌<◌, ◌≤◌, ℕ, List, length, ap, ◌∙◌, arith, rules}
use Rattle.std.specs.declared.option.Option.{Option}
use Rattle.neph_pool.specs.declared.entry.Entry.{Entry}
use Rattle.neph_pool.specs.Entries.{hold_at, words_at, is_held}
use Rattle.neph_pool.proofs.Entries.{hold_at-with_words}
use Rattle.neph_pool.proofs.Calls.{moves_trans}
use Rattle.neph_heap.specs.Holds.{times}
use Rattle.neph_heap.proofs.Filled.{IsMore, filled_more, page_named}
use Rattle.neph_heap.proofs.words.fill_pages.Goals as goal

pub fill_page-requires-clause-from : goal.fill_page-requires-clause-from
fill_page-requires-clause-from g c =
    let x = c.index-parent-i.result in
    ap is_held (c.loop-i.invariant.holds x.frame ∙ c.requires.from x.frame (page_named c.args.parent.now c.loop-i.i x c.loop-i-test.true c.index-parent-i.is))

pub loop-i-preserved : goal.loop-i-preserved
loop-i-preserved g c =
    let W = g.P.FramePool.world in
    let es = W.entries c.args.pool.now c.args.seat.now in
    let now = W.entries c.loop-i.pool c.loop-i.seat in
    let fs = W.entries c.fill_page.new.pool c.fill_page.new.seat in
    let x = c.index-parent-i.result in
    let y = c.index-frames-i.result in
    let i = c.loop-i.invariant in
    let was : IsMore es now c.args.parent.now c.args.frames.now c.loop-i.i c.loop-i.born.items = record { pages = i.pages; frames = i.frames; words = i.words } in
    let lf : c.loop-i.i < length c.args.frames.now = omega (arith, c.loop-i-test.true, c.requires.count) in
    let once : (f : ℕ) → times f c.args.frames.now ≤ 1 = λ f. omega (arith, c.requires.once f) in
    let apart : times x.frame c.args.frames.now ≡ 0 = omega (arith, c.requires.once x.frame, page_named c.args.parent.now c.loop-i.i x c.loop-i-test.true c.index-parent-i.is) in
    let more = filled_more es now fs c.args.parent.now c.args.frames.now c.loop-i.i c.loop-i.born.items c.push_reserved.new.self.items x y was c.loop-i-test.true lf c.index-parent-i.is c.index-frames-i.is once apart c.fill_page.ensures.entries c.fill_page.ensures.bytes c.push_reserved.ensures.items in record {
      pages = more.pages;
      frames = more.frames;
      size = search rules;
      room = search rules;
      holds = λ f. ap (λ (zs : List (Option Entry)). hold_at zs f) c.fill_page.ensures.entries ∙ hold_at-with_words now y (words_at fs y) f ∙ i.holds f;
      words = more.words;
      moves = moves_trans W _ _ _ _ _ _ i.moves c.fill_page.ensures.moves;
      shares = c.fill_page.ensures.counts.shares ∙ i.shares;
    }
