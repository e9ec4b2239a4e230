use Rattle.std.proofs.Common.{◌≡◌, ◌++◌, drop}
use Rattle.neph_script.proofs.Printed.{spaced_actors}
use Rattle.neph_script.specs.Spelling.{turns_words}
use Rattle.neph_model.specs.Words.{spaced}
use Rattle.neph_script.proofs.printing.put_group.Given as goal

abbrev pub invariant-loop-actor : goal.invariant-loop-actor
invariant-loop-actor l = l.out.items ++ spaced_actors (drop l.actor-index l.actors) ≡ l.fn.out.items ++ spaced (turns_words l.actors)
