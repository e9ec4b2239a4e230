use Rattle.std.proofs.Common.{rules, sym, ◌∙◌}
use Rattle.std.specs.Prelude.{◌==◌}
use borrow.Author.Tests.{tests}
use Rattle.std.proofs.lemmas.Iterator.{YieldsList-from_slice}
use Rattle.std.proofs.lemmas.Iterator.Search.{position_from_yields_List}
use Rattle.neph_base.specs.Path.{slash}
use Rattle.neph_xsclone.proofs.Moving.{first_part, only_part}
use Rattle.neph_xsclone.proofs.value.kind_in.Goals as goal

pub returns-in-Some : goal.returns-in-Some
returns-in-Some c =
    first_part c.args.text.now c.in-Some.end (sym c.in-Some.is ∙ position_from_yields_List (λ b. b == slash) _ _ c.position.result c.position.ensures.ran (YieldsList-from_slice c.args.text.now cc) (λ x b q k. search (rules, tests)))

pub returns-in-None : goal.returns-in-None
returns-in-None c =
    only_part c.args.text.now (sym c.in-None.is ∙ position_from_yields_List (λ b. b == slash) _ _ c.position.result c.position.ensures.ran (YieldsList-from_slice c.args.text.now cc) (λ x b q k. search (rules, tests)))
