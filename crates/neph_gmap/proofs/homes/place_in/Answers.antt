use Rattle.std.proofs.Common.{sym}
use Rattle.std.proofs.lemmas.Option.{slice_get_within}
use Rattle.neph_gmap.proofs.Unaliased.{first_there, first_unaliased}
use Rattle.neph_gmap.proofs.homes.place_in.Goals as goal

pub returns-then-lies_at-clause-first : goal.returns-then-lies_at-clause-first
returns-then-lies_at-clause-first c = λ apart. sym (first_unaliased c.args.pages.now _ c.args.f apart (c.lies_at.ensures c.if-lies_at.true))

pub returns-then-lies_at-clause-bound : goal.returns-then-lies_at-clause-bound
returns-then-lies_at-clause-bound c = slice_get_within c.args.pages.now _ _ (c.lies_at.ensures c.if-lies_at.true)

pub returns-clause-there : goal.returns-clause-there
returns-clause-there c = first_there c.args.pages.now c.args.f c.first_in.result c.first_in.ensures.place
