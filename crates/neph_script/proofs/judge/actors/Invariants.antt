use Rattle.std.proofs.Common.{◌≡◌, drop, map}
use Rattle.neph_script.specs.Lines.{actors}
use Rattle.neph_script.proofs.Onto.{onto}
use Rattle.neph_script.proofs.judge.actors.Given as goal

abbrev pub invariant-loop-word : goal.invariant-loop-word
invariant-loop-word l = actors (map (λ w. w.now) l.words) ≡ onto l.found.items (actors (map (λ w. w.now) (drop l.word-index l.words)))
