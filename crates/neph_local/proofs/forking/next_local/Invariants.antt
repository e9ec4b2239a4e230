use Rattle.std.proofs.Common.{◌≡◌, ◌<◌, ◌≤◌, ℕ, None}
use Rattle.neph_memory.specs.Pages.{frame_at}
use Rattle.neph_local.proofs.forking.next_local.Given as goal

abbrev pub invariant-loop-n : goal.invariant-loop-n
invariant-loop-n l = (q : ℕ) → l.from ≤ q → q < l.n → frame_at l.map.pages q ≡ None
