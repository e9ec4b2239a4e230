use Rattle.std.proofs.Common.{◌≡◌, ◌<◌, ℕ, false}
use Rattle.neph_tree.specs.Places.{home, is_within}
use Rattle.neph_tree.proofs.homes.search.Given as goal

abbrev pub invariant-loop-d : goal.invariant-loop-d
invariant-loop-d l = (e : ℕ) → e < l.d → is_within (home e) l.path ≡ false
