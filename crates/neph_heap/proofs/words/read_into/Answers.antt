use Rattle.std.proofs.Common.{◌≡◌, ◌+◌, ◌*◌, List, length, take, drop, ap, ◌∙◌, arith}
use Rattle.std.specs.declared.option.Option.{Option}
use Rattle.neph_pool.specs.declared.entry.Entry.{Entry}
use Rattle.neph_pool.specs.Entries.{hold_at, words_at, IsShaped}
use Rattle.neph_pool.specs.Bytes.{bytes_at}
use Rattle.neph_pool.proofs.Entries.{here_held}
use Rattle.neph_pool.proofs.Calls.{moves_trans, same_counts_trans}
use Rattle.neph_pool.proofs.Spans.{length-bytes}
use Rattle.neph_heap.proofs.Spans.{piece_more}
use Rattle.neph_heap.proofs.words.read_into.Goals as goal

pub loop-done-preserved : goal.loop-done-preserved
loop-done-preserved g c =
    let W = g.P.FramePool.world in
    let es = W.entries c.args.pool.now c.args.seat.now in
    let i = c.loop-done.invariant in
    let shape : IsShaped (W.frames c.args.pool.now) es = g.met.P.FramePool.shaped _ _ c.requires.seat.0 in
    let long : length (words_at es c.args.f) ≡ 512 = shape.words c.args.f (here_held (hold_at es c.args.f) c.requires.frame) in
    let page : length (bytes_at es c.args.f) ≡ 8 * length (words_at es c.args.f) = length-bytes (words_at es c.args.f) in
    let fits = c.requires.fits in
    let least = c.min-len.ensures in
    let same = c.loop-done.auto.into in
    let kept = c.place.auto.into in
    let piece : c.bytes.result.now ≡ take c.min-len.result (drop (c.args.at + c.loop-done.done) (bytes_at es c.args.f))
    = c.bytes.ensures.value ∙ c.read_bytes-piece.ensures.bytes ∙ ap (λ (xs : List (Option Entry)). take c.min-len.result (drop (c.args.at + c.loop-done.done) (bytes_at xs c.args.f))) i.entries in record {
      moves = moves_trans W _ _ _ _ _ _ i.moves c.read_bytes-piece.ensures.moves;
      counts = same_counts_trans W _ _ _ i.counts c.read_bytes-piece.ensures.counts;
      entries = c.read_bytes-piece.ensures.entries ∙ i.entries;
      within = omega arith;
      bytes = piece_more c.loop-done.into c.place.new.into (bytes_at es c.args.f) c.bytes.result.now c.args.at c.loop-done.done c.min-len.result c.place.ensures piece i.within (omega (arith, long, page)) i.bytes;
    }
