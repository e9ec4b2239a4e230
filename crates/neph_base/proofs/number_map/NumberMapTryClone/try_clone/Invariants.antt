use Rattle.std.proofs.Common.{◌≡◌, ℕ, List, ◌++◌, length}
use Rattle.std.specs.FinMap as map
use Rattle.neph_base.proofs.number_map.NumberMapTryClone.try_clone.Given as goal

abbrev pub invariant-loop-at : goal.invariant-loop-at
invariant-loop-at g l = (done : List (ℕ × g.row.V.Denot)) × (l.initial.rest ≡ l.rest ++ done) × (l.copy ≡ map.from_entries done)

abbrev pub decreases-loop-at : goal.decreases-loop-at
decreases-loop-at g l = length l.rest
