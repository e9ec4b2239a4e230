use Rattle.std.proofs.Common.{◌≡◌, ◌≤◌, ◌*◌, take}
use Rattle.neph_model.specs.WellFormed.{frames_of_starts}
use Rattle.neph_script.proofs.frames.frames_of_starts.Given as goal

abbrev pub invariant-loop-start : goal.invariant-loop-start
invariant-loop-start l = record { value : l.sum ≡ frames_of_starts (take l.start-index l.starts); small : l.sum ≤ l.start-index * 1027 }
