use Rattle.std.proofs.Common.{refl}
use Rattle.neph_pool.proofs.Words.{words_new}
use Rattle.neph_pool.proofs.pages.Pages.new.Goals as goal

pub returns-clause-words : goal.returns-clause-words
returns-clause-words c = words_new _ _ _ _ _ _ c.args.frames refl c.in_ok-made.ensures.items c.push_reserved.ensures.items c.in_ok-places.ensures.items c.in_ok-places.ensures.len c.in_ok-resize.ensures.items
