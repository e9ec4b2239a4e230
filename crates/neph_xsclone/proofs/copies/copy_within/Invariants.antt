use Rattle.std.proofs.Common.{◌≡◌, ◌++◌, map, take}
use Rattle.neph_tree.specs.Entries.{shown}
use Rattle.neph_xsclone.specs.Rewriting.{copied}
use Rattle.neph_xsclone.proofs.copies.copy_within.Given as goal

abbrev pub invariant-loop-node : goal.invariant-loop-node
invariant-loop-node l = shown l.nodes.items ≡ shown l.fn.nodes.items ++ map (λ e. copied l.parent l.child l.from l.to (e.0.now, e.1.now)) (take l.node-index l.node-items)
