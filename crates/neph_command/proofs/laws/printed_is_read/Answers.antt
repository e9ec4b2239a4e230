use Rattle.neph_command.proofs.CommandLaws.{verb_again, command_read}
use Rattle.neph_command.proofs.laws.printed_is_read.Goals as goal

pub returns-clause-first : goal.returns-clause-first
returns-clause-first c v = verb_again v

pub returns-clause-rest : goal.returns-clause-rest
returns-clause-rest c s h = command_read s h
