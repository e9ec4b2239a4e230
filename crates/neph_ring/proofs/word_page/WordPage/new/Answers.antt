use Rattle.std.proofs.Common.{rules}
use Rattle.neph_ring.proofs.Quiet.{quiet_words}
use Rattle.neph_ring.proofs.word_page.WordPage.new.Goals as goal

pub returns-clause-quiet : goal.returns-clause-quiet
returns-clause-quiet c = quiet_words c.in_ok-words.words.items (search rules)
