use Rattle.std.proofs.Common.{List, ℕ, ap, ◌∙◌, arith, length-set}
use Rattle.std.proofs.lemmas.List.{take_all}
use Rattle.std.specs.Int.{w64, to_le_bytes}
use Rattle.neph_pool.specs.Bytes.{with_bytes}
use Rattle.neph_pool.proofs.Spans.{lane_more, word_after}
use Rattle.neph_pool.proofs.bytes.with_lanes.Goals as goal

pub loop-i-preserved : goal.loop-i-preserved
loop-i-preserved c =
    let i = c.loop-i.invariant in
    let old : List ℕ = to_le_bytes w64 c.args.old in record {
      size = length-set _ _ _ ∙ i.size;
      word = lane_more old c.args.bytes.now c.loop-i.word c.args.lane c.loop-i.i 0 (i.size) i.word c.loop-i-test.true c.requires;
    }

pub returns : goal.returns
returns c =
    let old : List ℕ = to_le_bytes w64 c.args.old in
    let whole = take_all c.loop-i.i c.args.bytes.now c.loop-i-test.false in
    word_after c.args.old c.from_le_bytes.result c.args.lane c.loop-i.word c.args.bytes.now (c.loop-i.invariant.word ∙ ap (λ (xs : List ℕ). with_bytes old c.args.lane xs) whole) c.requires (λ k. omega (arith, c.type_inv.bytes k)) c.from_le_bytes.ensures
