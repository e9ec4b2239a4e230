use Rattle.std.proofs.Common.{◌≡◌, ℕ, List, ◌++◌, length}
use Rattle.std.specs.FinMap as map
use Rattle.neph_flat.proofs.page_map.PageMap.copy.Given as goal

abbrev pub invariant-loop-pfn : goal.invariant-loop-pfn
invariant-loop-pfn l = (done : List (ℕ × List ℕ)) × (l.initial.rest ≡ l.rest ++ done) × (l.copy ≡ map.from_entries done)

abbrev pub decreases-loop-pfn : goal.decreases-loop-pfn
decreases-loop-pfn l = length l.rest
