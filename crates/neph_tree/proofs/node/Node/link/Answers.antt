use Rattle.std.proofs.Common.{Some, refl}
use Rattle.std.specs.Prelude.{Result, Ok, Err, OnErr}
use Rattle.neph_tree.proofs.NodeLemmas.{child_updated, child_kept}
use Rattle.neph_tree.proofs.node.Node.link.Goals as goal

on_err : {X E : Type 0} {P : Type 0} (r : Result X E) → P → OnErr r P
on_err (Ok x) p = tt
on_err (Err e) p = p

pub returns-in_err-insert-clause-err : goal.returns-in_err-insert-clause-err
returns-in_err-insert-clause-err c =
    on_err c.from_residual.result (
    record {
      path = refl;
      value = refl;
      children = λ other. child_kept c.args.name.items c.args.self.now.children.entries c.insert.new.self.entries c.in_err-insert.ensures.absent c.in_err-insert.ensures.err other;
    }
    )

pub returns-clause-ok : goal.returns-clause-ok
returns-clause-ok c =
    let updates = c.in_ok-insert.ensures.updates in
    record {
      path = refl;
      value = refl;
      children = λ other. child_updated c.args.name.items c.args.self.now.children.entries c.insert.new.self.entries (Some c.args.key) updates.1 updates.3 other;
    }
