use Rattle.neph_ring.specs.Bytes.{bytes_of_words}
use Rattle.neph_ring.specs.Network.{IsNetwork}
use Rattle.neph_ring.proofs.tests.send_all.Given as goal

abbrev pub invariant-loop-n : goal.invariant-loop-n
invariant-loop-n g l = IsNetwork (bytes_of_words (g.W.Words.words l.page))

abbrev pub invariant-loop-n-then-has_network : goal.invariant-loop-n-then-has_network
invariant-loop-n-then-has_network g l = IsNetwork (bytes_of_words (g.W.Words.words l.page))
