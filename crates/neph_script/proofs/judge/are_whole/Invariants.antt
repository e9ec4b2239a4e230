use Rattle.std.proofs.Common.{◌≡◌, drop, map}
use Rattle.neph_script.specs.Lines.{are_whole}
use Rattle.neph_script.proofs.judge.are_whole.Given as goal

abbrev pub invariant-loop-word : goal.invariant-loop-word
invariant-loop-word l = are_whole (map (λ w. w.now) (drop l.word-index l.words)) ≡ are_whole (map (λ w. w.now) l.words)
