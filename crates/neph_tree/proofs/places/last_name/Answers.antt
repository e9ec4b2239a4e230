use Rattle.std.proofs.Common.{sym, ◌∙◌}
use Rattle.neph_tree.proofs.ChildLemmas.{child_same}
use Rattle.neph_tree.proofs.places.last_name.Goals as goal

pub returns-in-Some : goal.returns-in-Some
returns-in-Some c = λ directory name child.
    let own = c.in-Some.ensures.some c.requires in
    (child_same c.in-Some.field-0-0.now directory c.in-Some.name.now name own.form child.form own.one child.one (sym own.whole ∙ child.whole)).1
