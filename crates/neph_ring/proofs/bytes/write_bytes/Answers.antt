use Rattle.std.proofs.Common.{arith}
use Rattle.neph_ring.proofs.InWords.{write_more, with_none}
use Rattle.neph_ring.proofs.Spans.{length-bytes}
use Rattle.neph_ring.proofs.bytes.write_bytes.Goals as goal

pub loop-done-init : goal.loop-done-init
loop-done-init g c = record {
  done = omega arith;
  bytes = with_none _ _;
  rest = g.met.W.Words.rest_same c.args.page.now;
}

pub loop-done-preserved : goal.loop-done-preserved
loop-done-preserved g c = record {
  done = omega arith;
  bytes = write_more _ _ _ _ _ _ c.min-n.result _ (let full = g.met.W.Words.full c.args.page.now in let long = length-bytes (g.W.Words.words c.args.page.now) in omega arith) (omega arith) c.loop-done.invariant.bytes (omega arith) c.write_in_word.ensures.bytes;
  rest = g.met.W.Words.rest_trans _ _ _ c.loop-done.invariant.rest c.write_in_word.ensures.rest;
}
