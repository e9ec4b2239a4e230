use Rattle.neph_local.proofs.Releasing.{released_hold, released_else, released_words}
use Rattle.neph_local.proofs.freed.release_one.Goals as goal

pub returns-clause-hold : goal.returns-clause-hold
returns-clause-hold g c = released_hold _ _ c.args.f _ c.requires.frame c.release.ensures.entries

pub returns-clause-holds : goal.returns-clause-holds
returns-clause-holds g c = released_else _ _ c.args.f _ c.release.ensures.entries

pub returns-clause-words : goal.returns-clause-words
returns-clause-words g c = released_words _ _ c.args.f _ c.release.ensures.entries
