use Rattle.std.proofs.Common.{◌≡◌, Some, None, refl, ◌∙◌}
use Rattle.std.specs.Prelude.{Result, Ok, Err, OnOk, OnErr}
use Rattle.neph_tree.specs.Places.{root}
use Rattle.neph_tree.proofs.LinkLemmas.{alone_linked}
use Rattle.neph_tree.proofs.HangLemmas.{attached_root, attached_missing}
use Rattle.neph_tree.proofs.WriteLemmas.{hung_below}
use Rattle.neph_tree.proofs.node_slab.NodeSlab.link.Goals as goal

on_ok : {X E : Type 0} {P Q : Type 0} (r : Result X E) → (P → Q) → OnOk r P → OnOk r Q
on_ok (Ok x) f h = f h
on_ok (Err e) f h = h

on_err : {X E : Type 0} {P Q : Type 0} (r : Result X E) → (P → Q) → OnErr r P → OnErr r Q
on_err (Ok x) f h = h
on_err (Err e) f h = f h

any_err : {X E : Type 0} {P : Type 0} (r : Result X E) → P → OnErr r P
any_err (Ok x) p = tt
any_err (Err e) p = p

pub returns-in_default-clause-ok : goal.returns-in_default-clause-ok
returns-in_default-clause-ok c =
    let is : c.args.path.now ≡ root = rw c.in_default.is at c.requires.up in
    attached_root c.args.path.now (Some c.args.key) c.args.self.now (record c.args.self.now { root = Some c.args.key }) (alone_linked c.args.self.now c.requires.linked) is refl refl

pub returns-in_err-name-clause-err : goal.returns-in_err-name-clause-err
returns-in_err-name-clause-err c = any_err c.from_residual.result (attached_missing c.args.path.now c.args.self.now c.requires.linked c.requires.missing)

pub returns-clause-ok : goal.returns-clause-ok
returns-clause-ok c =
    let up = rw c.in-Some.is at c.requires.up in
    on_ok c.link.result (hung_below c.args.path.now c.in_ok-name.name.items (Some c.args.key) c.args.self.now c.in-Some.up c.in-Some-get_mut.node.now c.link.new.self (alone_linked c.args.self.now c.requires.linked) up c.in-Some-get_mut.ensures.value (λ d n child. c.in_ok-name.ensures ∙ c.last_name.ensures d n child)) c.link.ensures.ok

pub returns-clause-err : goal.returns-clause-err
returns-clause-err c =
    let up = rw c.in-Some.is at c.requires.up in
    on_err c.link.result (hung_below c.args.path.now c.in_ok-name.name.items None c.args.self.now c.in-Some.up c.in-Some-get_mut.node.now c.link.new.self (alone_linked c.args.self.now c.requires.linked) up c.in-Some-get_mut.ensures.value (λ d n child. c.in_ok-name.ensures ∙ c.last_name.ensures d n child)) c.link.ensures.err
