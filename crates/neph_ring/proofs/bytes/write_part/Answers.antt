use Rattle.std.proofs.Common.{arith}
use Rattle.neph_ring.proofs.InWords.{write_step}
use Rattle.neph_ring.proofs.bytes.write_part.Goals as goal

pub returns-clause-bytes : goal.returns-clause-bytes
returns-clause-bytes g c =
    write_step _ _ _ _ _ _ _ _ _ (g.met.W.Words.full c.args.page.now) c.requires.place c.requires.within c.get.ensures.word c.to_le_bytes-word.ensures
    c.copy_from_slice.ensures.after (λ i. omega (arith, c.type_inv.from i)) c.from_le_bytes.ensures c.get.ensures.words c.set.ensures.words
