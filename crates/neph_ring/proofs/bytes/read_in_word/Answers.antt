use Rattle.neph_ring.proofs.InWords.{read_step}
use Rattle.neph_ring.proofs.bytes.read_in_word.Goals as goal

pub returns-clause-bytes : goal.returns-clause-bytes
returns-clause-bytes g c = read_step _ _ _ _ _ _ (g.met.W.Words.full c.args.page.now) c.requires.place c.requires.within c.get.ensures.word c.to_le_bytes-word.ensures c.copy_from_slice.ensures.after
