use Rattle.std.proofs.Common.{◌≡◌, ◌+◌, ◌-◌, ◌*◌, List, ℕ, length, take, drop, refl, sym, ap, ◌∙◌, arith}
use Rattle.std.specs.declared.option.Option.{Option}
use Rattle.neph_pool.specs.declared.entry.Entry.{Entry}
use Rattle.neph_pool.specs.Bytes.{bytes_at, with_bytes}
use Rattle.neph_pool.specs.Entries.{words_at, IsShaped, hold_at, is_here}
use Rattle.neph_pool.proofs.Entries.{with_words-same, hold_at-with_words}
use Rattle.neph_pool.proofs.Calls.{moves_refl, moves_trans, same_counts_refl, same_counts_trans}
use Rattle.neph_pool.proofs.Spans.{over_more, over_nothing, length-bytes, settled_twice}
use Rattle.neph_pool.proofs.bytes.write_bytes.Goals as goal

pub loop-done-init : goal.loop-done-init
loop-done-init g c = record {
  moves = moves_refl _ _ _ c.requires.seat.0;
  counts = same_counts_refl _ _;
  met = refl;
  entries = sym (with_words-same _ _);
  done = omega arith;
  bytes = sym (over_nothing _ c.args.at);
}

pub write_in_word-requires-clause-frame : goal.write_in_word-requires-clause-frame
write_in_word-requires-clause-frame g c =
    ap (λ (xs : List (Option Entry)). hold_at xs c.args.f) c.loop-done.invariant.entries ∙ hold_at-with_words _ c.args.f _ c.args.f ∙ c.requires.frame

pub loop-done-preserved : goal.loop-done-preserved
loop-done-preserved g c =
    let W = g.P.FramePool.world in
    let es = W.entries c.args.pool.now c.args.seat.now in
    let i = c.loop-done.invariant in
    let d = c.loop-done.done in
    let n = c.min-n.result in
    let shape : IsShaped (W.frames c.args.pool.now) es = g.met.P.FramePool.shaped _ _ c.requires.seat.0 in
    let long : length (words_at es c.args.f) ≡ 512 = shape.words c.args.f (ap is_here c.requires.frame) in
    let page : length (bytes_at es c.args.f) ≡ 8 * length (words_at es c.args.f) = length-bytes (words_at es c.args.f) in
    let count : d + n - d ≡ n = omega arith in
    record {
      moves = moves_trans W _ _ _ _ _ _ i.moves c.write_in_word.ensures.moves;
      counts = same_counts_trans W _ _ _ i.counts c.write_in_word.ensures.counts;
      met = c.write_in_word.ensures.met ∙ i.met;
      entries = settled_twice es _ _ c.args.f _ _ i.entries c.write_in_word.ensures.entries;
      done = omega arith;
      bytes = c.write_in_word.ensures.bytes ∙ ap (λ (xs : List ℕ). with_bytes xs (c.args.at + d) (take (d + n - d) (drop d c.args.bytes.now))) i.bytes
          ∙ over_more (bytes_at es c.args.f) c.args.bytes.now c.args.at d n (d + n - d) (omega (arith, long, page, c.requires.fits)) (omega arith) count;
    }
