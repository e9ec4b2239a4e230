use Rattle.std.proofs.Common.{rules, ◌≡◌, ◌<◌, length, arith}
use Rattle.std.specs.List.{list_all}
use borrow.Author.Tests.{tests}
use Rattle.std.proofs.lemmas.Iterator.{YieldsList-from_slice}
use Rattle.std.proofs.lemmas.Iterator.Search.{all_from_yields_List}
use Rattle.std.proofs.lemmas.Bool.Decides.{nat_tests}
use Rattle.neph_base.specs.Path.{is_path_byte}
use Rattle.neph_xsclone.proofs.value.is_component.Goals as goal

pub returns-then-not-is_empty : goal.returns-then-not-is_empty
returns-then-not-is_empty c =
    let each : c.all.result ≡ list_all is_path_byte c.args.part.now =
    all_from_yields_List is_path_byte _ _ c.all.result c.all.ensures.ran (YieldsList-from_slice c.args.part.now cc) (λ x b q k. search (rules, tests))
    in
    let some : 0 < length c.args.part.now = grind (arith, nat_tests) in
    grind (arith, nat_tests)
