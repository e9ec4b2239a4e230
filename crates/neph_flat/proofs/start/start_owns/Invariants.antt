use Rattle.std.proofs.Common.{◌≡◌, ◌+◌, ◌-◌, ◌++◌, ◌∷◌, drop, length, replicate}
use Rattle.neph_model.specs.Machine.{no_own}
use Rattle.neph_model.specs.Start.{of_starts, start_own}
use Rattle.neph_flat.proofs.start.start_owns.Given as goal

abbrev pub invariant-loop-start : goal.invariant-loop-start
invariant-loop-start l =
    record {
      id : l.id ≡ l.start-index + 1;
      list : l.list.items ++ of_starts start_own l.id (drop l.start-index l.starts) ≡ no_own ∷ of_starts start_own 1 l.starts;
    }

abbrev pub invariant-loop : goal.invariant-loop
invariant-loop l = l.list.items ≡ no_own ∷ (of_starts start_own 1 l.starts ++ replicate (l.counter - length l.starts) no_own)
