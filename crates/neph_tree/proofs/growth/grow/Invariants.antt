use Rattle.std.proofs.Common.{◌≡◌, ◌+◌, ◌∷◌, map, take}
use Rattle.neph_base.specs.Path.{slash}
use Rattle.neph_tree.specs.Places.{root, cuts}
use Rattle.neph_tree.specs.Nodes.{with_each_missing}
use Rattle.neph_tree.specs.Growth.{IsGrown}
use Rattle.neph_tree.proofs.growth.grow.Given as goal

abbrev pub invariant-loop-i : goal.invariant-loop-i
invariant-loop-i l =
    record {
      made : l.nodes ≡ with_each_missing l.fn.nodes (root ∷ map (λ f. slash ∷ f) (cuts (take l.i l.text)));
      grown : IsGrown l.fn.nodes l.nodes l.path l.top (l.i + 1);
    }
