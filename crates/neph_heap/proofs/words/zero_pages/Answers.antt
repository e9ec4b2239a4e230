use Rattle.std.proofs.Common.{◌≡◌, ◌<◌, ◌+◌, List, length, ap, ◌∙◌, arith, rules}
use Rattle.std.specs.declared.option.Option.{Option}
use Rattle.neph_pool.specs.declared.entry.Entry.{Entry}
use Rattle.neph_pool.specs.Entries.{hold_at, is_here}
use Rattle.neph_pool.proofs.Entries.{hold_at-with_words}
use Rattle.neph_pool.proofs.Calls.{moves_trans}
use Rattle.neph_ptab.specs.Tables.{zero_words}
use Rattle.neph_heap.proofs.Counting.{times_at}
use Rattle.neph_heap.proofs.Filled.{IsLaid, laid_more}
use Rattle.neph_heap.proofs.Spans.{wiped_bytes}
use Rattle.neph_heap.proofs.words.zero_pages.Goals as goal

pub loop-i-preserved : goal.loop-i-preserved
loop-i-preserved g c =
    let W = g.P.FramePool.world in
    let es = W.entries c.args.pool.now c.args.seat.now in
    let now = W.entries c.loop-i.pool c.loop-i.seat in
    let fs = W.entries c.wipe.new.pool c.wipe.new.seat in
    let y = c.index-frames-i.result in
    let i = c.loop-i.invariant in
    let was : IsLaid es now c.args.frames.now c.loop-i.i c.loop-i.born.items = record { pages = i.pages; frames = i.frames; words = i.words } in
    let lf : c.loop-i.i < length c.args.frames.now = omega (arith, c.loop-i-test.true, c.requires.count) in
    let mine = i.holds y ∙ c.requires.sole y (times_at c.args.frames.now c.loop-i.i y lf c.index-frames-i.is) in
    let pfn : c.unwrap.result ≡ c.loop-i.i + 1 = grind arith in
    let more = laid_more es now fs c.args.frames.now c.loop-i.i c.loop-i.born.items c.push_reserved.new.self.items c.unwrap.result y zero_words was lf pfn c.index-frames-i.is c.requires.once c.wipe.ensures.entries (wiped_bytes now fs y c.wipe.ensures.entries (ap is_here mine)) c.push_reserved.ensures.items in record {
      pages = more.pages;
      frames = more.frames;
      size = search rules;
      room = search rules;
      holds = λ f. ap (λ (zs : List (Option Entry)). hold_at zs f) c.wipe.ensures.entries ∙ hold_at-with_words now y zero_words f ∙ i.holds f;
      words = more.words;
      moves = moves_trans W _ _ _ _ _ _ i.moves c.wipe.ensures.moves;
      shares = c.wipe.ensures.counts.shares ∙ i.shares;
    }
