use Rattle.std.proofs.Common.{arith}
use Rattle.neph_ring.proofs.InWords.{whole_step}
use Rattle.neph_ring.proofs.bytes.write_word.Goals as goal

pub returns-clause-bytes : goal.returns-clause-bytes
returns-clause-bytes g c =
    whole_step _ _ _ _ _ _ (g.met.W.Words.full c.args.page.now) c.requires.place c.requires.start c.requires.whole c.copy_from_slice.ensures.after (λ i. omega (arith, c.type_inv.from i)) c.from_le_bytes.ensures c.set.ensures.words
