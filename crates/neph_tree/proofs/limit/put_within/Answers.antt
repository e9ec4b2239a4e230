use Rattle.std.proofs.Common.{◌≡◌, inr, false, true, refl, sym, ◌∙◌}
use Rattle.std.specs.FinMap.{contains_key}
use Rattle.neph_tree.specs.Places.{home}
use Rattle.neph_tree.specs.Refusals.{is_over}
use Rattle.neph_tree.proofs.TreeLemmas.{over_there, replaced_there, with_node_there}
use Rattle.neph_tree.proofs.limit.put_within.Goals as goal
use Rattle.neph_tree.proofs.limit.put_within.Goals.{else-is_over-via-then-is_over+else-contains, else-is_over-via-else-is_over}

pub returns-then-contains-clause-why : goal.returns-then-contains-clause-why
returns-then-contains-clause-why c =
    inr (refl, over_there c.args.nodes.now c.args.path.now c.args.value.items (home c.args.me) c.requires.tree c.requires.path (sym c.contains.ensures ∙ c.if-contains.true) ∙ sym c.is_over.ensures ∙ c.if-is_over.true)

pub returns-in-None-clause-ok : goal.returns-in-None-clause-ok
returns-in-None-clause-ok c =
    let there = replaced_there c.args.nodes.now c.args.path.now c.replace.result c.in-None.is c.replace.ensures.tells in
    c.in-None.ensures.there ∙ sym (with_node_there c.args.nodes.now c.args.path.now c.args.value.items c.requires.tree c.requires.path there)

pub returns-in-None-clause-allowed : goal.returns-in-None-clause-allowed
returns-in-None-clause-allowed c =
    let there : contains_key c.args.nodes.now c.args.path.now ≡ true = replaced_there c.args.nodes.now c.args.path.now c.replace.result c.in-None.is c.replace.ensures.tells in
    let room : is_over c.args.nodes.now (home c.args.me) ≡ false = elim c.else-is_over.branch [
      | else-is_over-via-then-is_over+else-contains w ↦ absurd (let bad : true ≡ false = sym there ∙ sym w.contains.ensures ∙ w.if-contains.false in cc)
      | else-is_over-via-else-is_over w ↦ sym c.is_over.ensures ∙ w.if-is_over.false
    ] in
    over_there c.args.nodes.now c.args.path.now c.args.value.items (home c.args.me) c.requires.tree c.requires.path there ∙ room
