use Rattle.std.proofs.Common.{ap, ◌∙◌, arith}
use Rattle.std.specs.Prelude.{slice_get}
use Rattle.std.specs.FinMap as map
use Rattle.neph_tree.specs.NodeSlab.{nodes_of}
use Rattle.neph_tree.proofs.CountLemmas.{entry_there, entry_missing}
use Rattle.neph_tree.proofs.node_map.NodeMap.entry.Goals as goal

pub returns-then-place-len : goal.returns-then-place-len
returns-then-place-len c =
    entry_there (nodes_of c.self.inside.nodes) c.in_ok-all.all.items c.args.place c.swap_remove.result c.self.invariant.0.tree c.in_ok-all.ensures (omega (arith, c.if-place-len.true, c.len.ensures, c.in_ok-all.all.ok.0)) c.swap_remove.ensures.value
    ∙ ap (λ m. slice_get (map.entries m) c.args.place) c.self.view_is

pub returns : goal.returns
returns c =
    entry_missing (nodes_of c.self.inside.nodes) c.in_ok-all.all.items c.args.place c.self.invariant.0.tree c.in_ok-all.ensures (omega (arith, c.if-place-len.false, c.len.ensures, c.in_ok-all.all.ok.0))
    ∙ ap (λ m. slice_get (map.entries m) c.args.place) c.self.view_is
