use Rattle.std.proofs.Common.{◌≡◌, ap, ◌∙◌, rules, arith}
use Rattle.std.specs.FinMap as map
use Rattle.std.proofs.lemmas.Grind.{common_steps}
use Rattle.neph_model.specs.Births.{child_exposed}
use Rattle.neph_flat.proofs.PageLemmas.{len_child}
use Rattle.neph_flat.proofs.flat_pages.child_pages.Goals as goal

pub returns-clause-len : goal.returns-clause-len
returns-clause-len c =
    let e : c.clear-2.new.pages ≡ child_exposed c.args.parent.now = first_of (search rules, grind (arith, common_steps)) in
    ap map.len e ∙ len_child c.args.parent.now
