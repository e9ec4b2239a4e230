use Rattle.std.proofs.Common.{◌≡◌, ◌≤◌, length, drop, true}
use Rattle.std.specs.Prelude.{◌==◌, not}
use Rattle.std.specs.List.{list_all}
use Rattle.neph_base.specs.Path.{slash}
use Rattle.neph_tree.proofs.places.last_slash.Given as goal

abbrev pub invariant-loop-end : goal.invariant-loop-end
invariant-loop-end l = record {
  inside : l.end ≤ length l.path;
  behind : list_all (λ b. not (b == slash)) (drop l.end l.path) ≡ true;
}

abbrev pub decreases-loop-end : goal.decreases-loop-end
decreases-loop-end l = l.end
