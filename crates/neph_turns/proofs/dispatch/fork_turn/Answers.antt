use Rattle.std.proofs.Common.{sym, subst}
use Rattle.neph_guest.specs.declared.live.Stage.TheVariants.{Forking}
use Rattle.neph_machine.specs.Stages.{IsAt}
use Rattle.neph_turns.proofs.dispatch.fork_turn.Goals as goal

pub commit_turn-requires-clause-at : goal.commit_turn-requires-clause-at
commit_turn-requires-clause-at g c = subst (λ m. IsAt m c.args.id Forking) (sym (c.step_page.ensures.same c.if-step_page.false)) c.requires.forking

pub commit_turn-requires-clause-forked : goal.commit_turn-requires-clause-forked
commit_turn-requires-clause-forked g c = c.step_page.ensures.done c.if-step_page.false
