use Rattle.std.proofs.Common.{refl, ap, ◌∙◌, ℕ, Bool}
use Rattle.neph_ring.proofs.FrameSteps.{word_written, sole_written, keeps_written}
use Rattle.neph_ring.proofs.frame_words.FrameWordsWords.set.Goals as goal

pub invariant_of-self : goal.invariant_of-self
invariant_of-self g c = record {
  fits = c.write.ensures.moves.fits;
  named = (c.self.invariant.named.0, ap (λ (ns : ℕ → Bool). ns c.self.invariant.named.0) c.write.ensures.moves.names ∙ c.self.invariant.named.1);
  sole = sole_written _ _ _ _ _ c.self.invariant.sole c.write.ensures.entries;
}

pub returns-clause-words : goal.returns-clause-words
returns-clause-words g c =
    rw (← c.self.view_is) (word_written _ _ _ _ _ _ _ (g.met.P.FramePool.shaped c.self.inside.pool.now c.self.inside.seat.now c.self.invariant.fits)
    (g.met.P.FramePool.shaped c.write.new.self c.write.new.s c.write.ensures.moves.fits) c.self.invariant.sole c.write.ensures.entries)

pub returns-clause-rest : goal.returns-clause-rest
returns-clause-rest g c =
    rw (← c.self.view_is) (keeps_written g.P.FramePool.world _ _ refl refl refl c.write.ensures.moves c.write.ensures.counts _ c.self.invariant.sole c.write.ensures.entries)
