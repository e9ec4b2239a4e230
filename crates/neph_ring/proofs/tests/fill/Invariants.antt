use Rattle.neph_ring.specs.Bytes.{bytes_of_words}
use Rattle.neph_ring.specs.Console.{IsConsole}
use Rattle.neph_ring.proofs.tests.fill.Given as goal

abbrev pub invariant-loop-n : goal.invariant-loop-n
invariant-loop-n g l = IsConsole (bytes_of_words (g.W.Words.words l.page))
