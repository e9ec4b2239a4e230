use Rattle.std.proofs.Common.{◌≡◌, ◌+◌, ◌-◌, ◌++◌, ◌∷◌, drop, length, replicate}
use Rattle.std.specs.FinMap as fm
use Rattle.neph_model.specs.Start.{of_starts, start_exposed}
use Rattle.neph_flat.proofs.start.start_maps.Given as goal

abbrev pub invariant-loop-start : goal.invariant-loop-start
invariant-loop-start l = l.list.items ++ of_starts (λ n t. start_exposed) (l._start-index + 1) (drop l._start-index l.starts) ≡ fm.empty ∷ of_starts (λ n t. start_exposed) 1 l.starts

abbrev pub invariant-loop : goal.invariant-loop
invariant-loop l = l.list.items ≡ fm.empty ∷ (of_starts (λ n t. start_exposed) 1 l.starts ++ replicate (l.counter - length l.starts) fm.empty)
