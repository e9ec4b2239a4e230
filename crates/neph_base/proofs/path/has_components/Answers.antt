use Rattle.std.proofs.Common.{rules}
use borrow.Author.Tests.{tests}
use Rattle.std.proofs.lemmas.Iterator.Splits.{YieldsList-from_slice_split}
use Rattle.std.proofs.lemmas.Iterator.Search.{all_from_yields_List}
use Rattle.neph_base.specs.Path.{is_component, slash}
use Rattle.std.proofs.Common.{◌==◌}
use Rattle.neph_base.proofs.path.has_components.Goals as goal

pub returns : goal.returns
returns c =
    all_from_yields_List is_component _ _ c.all.result c.all.ensures.ran
    (YieldsList-from_slice_split _ (λ b. b == slash) c.args.text.now c.split.ensures.rest c.split.ensures.done c.split.ensures.closure (λ x b q k. search (rules, tests)))
    (λ x b q k. search (rules, tests))
