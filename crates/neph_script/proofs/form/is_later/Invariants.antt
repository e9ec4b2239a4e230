use Rattle.std.proofs.Common.{◌≡◌, drop, map}
use Rattle.std.specs.List.{list_any}
use Rattle.neph_command.specs.Words.{equals}
use Rattle.neph_script.specs.Forms.{is_later}
use Rattle.neph_script.proofs.form.is_later.Given as goal

abbrev pub invariant-loop-other : goal.invariant-loop-other
invariant-loop-other l = list_any (equals l.word) (map (λ w. w.now) (drop l.other-index l.other-items)) ≡ is_later l.word
