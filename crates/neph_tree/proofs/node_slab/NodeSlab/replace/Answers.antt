use Rattle.std.proofs.Common.{is_some, refl, sym, ap, ◌∙◌}
use Rattle.std.specs.Prelude.{not}
use Rattle.std.specs.FinMap.{insert}
use Rattle.neph_tree.specs.NodeSlab.{nodes_of}
use Rattle.neph_tree.proofs.LinkLemmas.{same_paths}
use Rattle.neph_tree.proofs.WriteLemmas.{always_found, path_found, value_found, value_replaced}
use Rattle.neph_tree.proofs.node_slab.NodeSlab.replace.Goals as goal

pub returns-in_default-clause-tells : goal.returns-in_default-clause-tells
returns-in_default-clause-tells c = ap not (sym (same_paths c.args.self.now c.requires c.args.path.now ∙ ap is_some (sym c.find.ensures ∙ c.in_default.is)))

pub unreachable-requires : goal.unreachable-requires
unreachable-requires c = absurd (let bad = sym (always_found c.args.self.now c.requires c.args.path.now c.in-Some.key c.in-Some.ensures) ∙ ap is_some (sym c.in-None.ensures.value) in cc)

pub returns-clause-linked : goal.returns-clause-linked
returns-clause-linked c =
    let a = c.in-Some-get_mut.node.now in
    (value_replaced c.args.self.now c.in-Some.key a (record a { value = c.args.value }) c.requires (sym c.in-Some-get_mut.ensures.value) refl refl).0

pub returns-clause-there : goal.returns-clause-there
returns-clause-there c =
    let a = c.in-Some-get_mut.node.now in
    (value_replaced c.args.self.now c.in-Some.key a (record a { value = c.args.value }) c.requires (sym c.in-Some-get_mut.ensures.value) refl refl).1
    ∙ ap (λ p. insert (nodes_of c.args.self.now) p c.args.value.items) (path_found c.args.self.now c.requires c.args.path.now c.in-Some.key a c.in-Some.ensures c.in-Some-get_mut.ensures.value)

pub returns-clause-tells : goal.returns-clause-tells
returns-clause-tells c = ap not (sym (ap is_some (value_found c.args.self.now c.requires c.args.path.now c.in-Some.key c.in-Some-get_mut.node.now c.in-Some.ensures c.in-Some-get_mut.ensures.value)))
