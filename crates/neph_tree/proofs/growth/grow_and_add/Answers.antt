use Rattle.std.proofs.Common.{ap, sym, subst, ◌∙◌}
use Rattle.std.specs.Prelude.{Result, Ok, Err, OnOk, IfOk, not}
use Rattle.std.specs.FinMap.{contains_key}
use Rattle.neph_tree.specs.Growth.{with_added}
use Rattle.neph_tree.specs.Nodes.{Nodes, IsTree}
use Rattle.neph_tree.proofs.GrowthLemmas.{grown_added}
use Rattle.neph_tree.proofs.TreeLemmas.{key_grown, made_of_added, IsTree-with_made}
use Rattle.neph_tree.proofs.growth.grow_and_add.Goals as goal

on_ok : {X E : Type 0} {P Q : Type 0} (r : Result X E) → (P → Q) → OnOk r P → OnOk r Q
on_ok (Ok x) f h = f h
on_ok (Err e) f h = h

if_ok : {X E : Type 0} {P Q : X → Type 0} (r : Result X E) → ((x : X) → P x → Q x) → IfOk r P → IfOk r Q
if_ok (Ok x) f h = f x h
if_ok (Err e) f h = h

pub add_last-requires : goal.add_last-requires
add_last-requires c =
    let path = c.args.path.now in
    let value = c.args.value.items in
    let Tree : Nodes → Type 0 = λ m. IsTree m in
    subst Tree (sym (ap (λ m. with_added m path value) c.in_ok-grow.ensures.ok ∙ made_of_added c.args.nodes.now path value c.requires.tree c.requires.path)) (IsTree-with_made c.args.nodes.now path value c.requires.tree c.requires.path)

pub returns-clause-ok : goal.returns-clause-ok
returns-clause-ok c =
    let path = c.args.path.now in
    let value = c.args.value.items in
    on_ok c.add_last.result (λ e. e ∙ ap (λ m. with_added m path value) c.in_ok-grow.ensures.ok ∙ made_of_added c.args.nodes.now path value c.requires.tree c.requires.path) c.add_last.ensures.ok

pub returns-clause-itself : goal.returns-clause-itself
returns-clause-itself c =
    let path = c.args.path.now in
    if_ok c.add_last.result (λ itself e. e ∙ ap (λ m. not (contains_key m path)) c.in_ok-grow.ensures.ok ∙ ap not (key_grown c.args.nodes.now path)) c.add_last.ensures.itself

pub returns-clause-grown : goal.returns-clause-grown
returns-clause-grown c =
    grown_added c.add_last.result c.args.nodes.now c.grow.new.nodes c.add_last.new.nodes c.args.path.now c.args.value.items c.grow.new.top c.add_last.new.top c.requires.path c.in_ok-grow.ensures.grown
    c.add_last.ensures.ok c.add_last.ensures.first c.add_last.ensures.err c.add_last.ensures.err_first
