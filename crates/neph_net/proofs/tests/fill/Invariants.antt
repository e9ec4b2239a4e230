use Rattle.neph_ring.specs.Bytes.{bytes_of_words}
use Rattle.neph_ring.specs.Network.{IsNetwork}
use Rattle.neph_net.proofs.tests.fill.Given as goal

abbrev pub invariant-loop-n : goal.invariant-loop-n
invariant-loop-n g l = IsNetwork (bytes_of_words (g.W.Words.words l.page))
