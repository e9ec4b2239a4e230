use Rattle.std.proofs.Common.{sym, ap, ◌∙◌}
use Rattle.std.specs.Prelude.{Result, Ok, Err, OnErr}
use Rattle.std.specs.FinMap.{get}
use Rattle.neph_tree.proofs.EntryLemmas.{none_there}
use Rattle.neph_tree.proofs.TreeLemmas.{insert_is}
use Rattle.neph_tree.proofs.LinkLemmas.{same_paths}
use Rattle.neph_tree.proofs.LeafLemmas.{still_linked}
use Rattle.neph_tree.proofs.WalkLemmas.{linked_room, up_room, keys_room, linked_hints, node_added}
use Rattle.neph_tree.specs.NodeSlab.{nodes_of}
use Rattle.neph_tree.proofs.node_slab.NodeSlab.add_below.Goals as goal

any_err : {X E : Type 0} {P : Type 0} (r : Result X E) → P → OnErr r P
any_err (Ok x) p = tt
any_err (Err e) p = p

pub link-requires-clause-path : goal.link-requires-clause-path
link-requires-clause-path c = c.requires.tree.paths c.args.path.now (insert_is (nodes_of c.args.self.now) c.args.path.now c.args.value.items)

pub link-requires-clause-up : goal.link-requires-clause-up
link-requires-clause-up c = up_room c.args.self.now c.reserve.new.self c.args.path.now c.args.up c.reserve.ensures.rest_kept c.requires.up

pub link-requires-clause-missing : goal.link-requires-clause-missing
link-requires-clause-missing c =
    ap (λ k. get k c.args.path.now) (keys_room c.args.self.now c.reserve.new.self c.reserve.ensures.rest_kept) ∙ none_there _ (sym (same_paths c.args.self.now c.requires.linked c.args.path.now) ∙ c.requires.missing)

pub returns-in_err-link-clause-linked : goal.returns-in_err-link-clause-linked
returns-in_err-link-clause-linked c =
    let base = linked_room c.args.self.now c.reserve.new.self c.reserve.ensures.rest_kept c.requires.linked in
    (still_linked (record c.args.self.now { nodes = c.reserve.new.self }) c.link.new.self c.args.path.now base.0 (ap (λ k. get k c.args.path.now) (keys_room c.args.self.now c.reserve.new.self c.reserve.ensures.rest_kept) ∙ none_there _ (sym (same_paths c.args.self.now c.requires.linked c.args.path.now) ∙ c.requires.missing)) c.in_err-link.ensures.err).0

pub returns-in_err-link-clause-err : goal.returns-in_err-link-clause-err
returns-in_err-link-clause-err c =
    let base = linked_room c.args.self.now c.reserve.new.self c.reserve.ensures.rest_kept c.requires.linked in
    any_err c.from_residual-in_err-link.result ((still_linked (record c.args.self.now { nodes = c.reserve.new.self }) c.link.new.self c.args.path.now base.0 (ap (λ k. get k c.args.path.now) (keys_room c.args.self.now c.reserve.new.self c.reserve.ensures.rest_kept) ∙ none_there _ (sym (same_paths c.args.self.now c.requires.linked c.args.path.now) ∙ c.requires.missing)) c.in_err-link.ensures.err).1 ∙ base.1)

pub returns-clause-linked : goal.returns-clause-linked
returns-clause-linked c =
    linked_hints _ _ (node_added c.args.self.now c.reserve.new.self c.insert_reserved.new.self c.link.new.self c.args.path.now c.args.value.items c.vacant_key-key.result c.insert_reserved.result c.in_ok-node.node c.requires.linked c.requires.missing c.requires.tree c.reserve.ensures.rest_kept
    c.vacant_key-key.ensures.value c.insert_reserved.ensures.key c.in_ok-node.ensures.path (ap (λ v. v.items) c.in_ok-node.ensures.value) c.in_ok-node.ensures.leaf c.in_ok-link.ensures.ok c.insert_reserved.ensures.was_vacant c.insert_reserved.ensures.updates c.insert_reserved.ensures.len).0

pub returns-clause-ok : goal.returns-clause-ok
returns-clause-ok c =
    (node_added c.args.self.now c.reserve.new.self c.insert_reserved.new.self c.link.new.self c.args.path.now c.args.value.items c.vacant_key-key.result c.insert_reserved.result c.in_ok-node.node c.requires.linked c.requires.missing c.requires.tree c.reserve.ensures.rest_kept
    c.vacant_key-key.ensures.value c.insert_reserved.ensures.key c.in_ok-node.ensures.path (ap (λ v. v.items) c.in_ok-node.ensures.value) c.in_ok-node.ensures.leaf c.in_ok-link.ensures.ok c.insert_reserved.ensures.was_vacant c.insert_reserved.ensures.updates c.insert_reserved.ensures.len).1
