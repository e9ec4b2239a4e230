use Rattle.std.proofs.Common.{is_some, sym, ap, ◌∙◌}
use Rattle.neph_tree.proofs.WriteLemmas.{always_found}
use Rattle.neph_tree.proofs.WalkLemmas.{names_found, names_missing}
use Rattle.neph_tree.proofs.node_slab.NodeSlab.names.Goals as goal

pub returns-in_default-clause-names : goal.returns-in_default-clause-names
returns-in_default-clause-names c = names_missing c.args.self.now c.requires c.args.directory.now c.find.result c.find.ensures c.in_default.is

pub returns-in_ok-names-in-Some-get-clause-names : goal.returns-in_ok-names-in-Some-get-clause-names
returns-in_ok-names-in-Some-get-clause-names c =
    names_found c.args.self.now c.requires c.args.directory.now c.in-Some.key c.in-Some-get.node.now c.in_ok-names-in-Some-get.field-0 c.in-Some.ensures c.in-Some-get.ensures c.in_ok-names-in-Some-get.ensures.names c.in_ok-names-in-Some-get.ensures.order

pub returns-in-None-clause-names : goal.returns-in-None-clause-names
returns-in-None-clause-names c = absurd (let bad = sym (always_found c.args.self.now c.requires c.args.directory.now c.in-Some.key c.in-Some.ensures) ∙ ap is_some (sym c.in-None.ensures) in cc)
