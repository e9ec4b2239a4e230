use Rattle.std.proofs.Common.{◌≡◌, ◌<◌, ℕ, List, sym, subst, arith}
use Rattle.std.specs.Prelude.{OnOk}
use Rattle.neph_tree.specs.Nodes.{with_nodes}
use Rattle.neph_tree.specs.Growth.{ArePaths}
use Rattle.neph_xsclone.proofs.Paths.{clone_paths}
use Rattle.neph_xsclone.proofs.domain.xs_clone.Goals as goal

pub put_nodes-requires : goal.put_nodes-requires
put_nodes-requires c =
    let small : c.args.child < 64 = omega (arith, c.get.ensures.value, c.get.ensures.range) in
    let Are : List (List ℕ × List ℕ) → Type 0 = λ es. ArePaths es in
    subst Are (sym c.in-Ok.ensures.nodes) (clone_paths c.args.t.now c.args.parent c.args.child c.in-Ok.ensures.tree small)

pub returns-in-Ok-clause-ok : goal.returns-in-Ok-clause-ok
returns-in-Ok-clause-ok c =
    let Sets : List (List ℕ × List ℕ) → Type 0 = λ es. OnOk c.put_nodes.result (c.put_nodes.new.self ≡ with_nodes c.args.t.now es) in
    subst Sets c.in-Ok.ensures.nodes c.put_nodes.ensures.ok
