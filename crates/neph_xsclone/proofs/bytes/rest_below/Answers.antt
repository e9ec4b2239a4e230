use Rattle.std.proofs.Common.{◌≡◌, ◌∷◌, [], Some, sym, ap, ◌∙◌}
use Rattle.std.specs.Option.{option_and_then}
use Rattle.neph_base.specs.Path.{slash}
use Rattle.neph_tree.specs.Places.{behind}
use Rattle.neph_tree.proofs.PlaceLemmas.{behind_yes, behind_no, behind-append, behind-strip_prefix}
use Rattle.neph_xsclone.proofs.bytes.rest_below.Goals as goal

pub returns-in-Some : goal.returns-in-Some
returns-in-Some c =
    let top = c.args.top.now in
    let path = c.args.path.now in
    let rest = c.in-Some.rest.now in
    let first : behind top path ≡ Some rest = behind_yes top path c.in-Some.ensures.cases.0 ∙ ap Some (sym c.in-Some.ensures.cases.1) in
    behind-strip_prefix (slash ∷ []) rest c.strip_prefix-in-Some.result c.strip_prefix-in-Some.ensures.cases ∙ ap (λ o. option_and_then (behind (slash ∷ [])) o) (sym first)
    ∙ sym (behind-append top (slash ∷ []) path)

pub returns-in-None : goal.returns-in-None
returns-in-None c =
    let top = c.args.top.now in
    let path = c.args.path.now in
    ap (λ o. option_and_then (behind (slash ∷ [])) o) (sym (behind_no top path c.in-None.ensures.cases)) ∙ sym (behind-append top (slash ∷ []) path)
