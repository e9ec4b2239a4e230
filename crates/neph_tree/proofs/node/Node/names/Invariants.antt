use Rattle.std.proofs.Common.{◌≡◌, ◌++◌, map}
use Rattle.neph_tree.proofs.node.Node.names.Given as goal

abbrev pub invariant-loop-name : goal.invariant-loop-name
invariant-loop-name l =
    l.names.items ++ map (λ k. k.items) l.name-iterator ≡ l.initial.names.items ++ map (λ k. k.items) l.initial.name-iterator
