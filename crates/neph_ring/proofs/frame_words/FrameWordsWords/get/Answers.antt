use Rattle.std.proofs.Common.{refl}
use Rattle.neph_ring.proofs.FrameSteps.{word_read, keeps_read}
use Rattle.neph_ring.proofs.frame_words.FrameWordsWords.get.Goals as goal

pub returns-clause-word : goal.returns-clause-word
returns-clause-word g c =
    rw (← c.self.view_is) (word_read _ _ _ _ _ (g.met.P.FramePool.shaped c.self.inside.pool.now c.self.inside.seat.now c.self.invariant.fits) c.self.invariant.sole c.read.ensures.word)

pub returns-clause-rest : goal.returns-clause-rest
returns-clause-rest g c = rw (← c.self.view_is) (keeps_read g.P.FramePool.world _ _ refl refl refl c.read.ensures.moves c.read.ensures.counts c.read.ensures.entries)
