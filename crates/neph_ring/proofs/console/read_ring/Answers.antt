use Rattle.std.proofs.Common.{arith, length}
use Rattle.neph_ring.proofs.Rings.{ring_read}
use Rattle.neph_ring.proofs.console.read_ring.Goals as goal

pub returns-clause-bytes : goal.returns-clause-bytes
returns-clause-bytes g c =
    ring_read _ _ _ _ _ (length c.args.into.now) c.min-first.result _ (length c.split_at_mut-until_end.result.1.now) (g.met.W.Words.full c.args.page.now) c.requires c.min-first.ensures c.read_bytes.ensures.words
    c.split_at_mut-until_end.ensures.front_len (omega (arith, c.split_at_mut-until_end.ensures.back_len)) c.read_bytes.ensures.bytes c.read_bytes-2.ensures.bytes
