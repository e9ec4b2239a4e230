use Rattle.std.proofs.Common.{◌≡◌, ◌∷◌, [], Some, sym, ap, ◌∙◌}
use Rattle.std.specs.Option.{option_and_then}
use Rattle.neph_base.specs.Path.{slash}
use Rattle.neph_tree.specs.Places.{behind}
use Rattle.neph_tree.proofs.PlaceLemmas.{behind_yes, behind_no, rest_below_other, rest_below_none, behind-strip_prefix}
use Rattle.neph_tree.proofs.places.rest_below.Goals as goal

pub returns-in-Some-2 : goal.returns-in-Some-2
returns-in-Some-2 c =
    let top = c.args.top.now in
    let path = c.args.path.now in
    let rest = c.in-Some.rest.now in
    let first : behind top path ≡ Some rest = behind_yes top path c.in-Some.ensures.cases.0 ∙ ap Some (sym c.in-Some.ensures.cases.1) in
    behind-strip_prefix (slash ∷ []) rest c.strip_prefix-in-Some-2.result c.strip_prefix-in-Some-2.ensures.cases ∙ ap (λ o. option_and_then (behind (slash ∷ [])) o) (sym first)
    ∙ sym (rest_below_other top path c.if-top-eq1.false)

pub returns-in-None : goal.returns-in-None
returns-in-None c =
    let top = c.args.top.now in
    let path = c.args.path.now in
    sym (rest_below_none top path (behind_no top path c.in-None.ensures.cases))
