use Rattle.std.proofs.Common.{◌≡◌, ◌<◌, ℕ, get_or, length}
use Rattle.neph_tree.proofs.homes.no_counts.Given as goal

abbrev pub invariant-loop-d : goal.invariant-loop-d
invariant-loop-d l = record { long : length l.counts ≡ 64; none : (e : ℕ) → e < l.d → get_or l.counts e 0 ≡ 0 }
