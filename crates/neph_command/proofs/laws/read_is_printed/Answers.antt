use Rattle.neph_command.proofs.CommandLaws.{verb_found, command_says}
use Rattle.neph_command.proofs.laws.read_is_printed.Goals as goal

pub returns-clause-first : goal.returns-clause-first
returns-clause-first c word v e = verb_found word v e

pub returns-clause-words : goal.returns-clause-words
returns-clause-words c v words s e = (command_says v words s e).spelled

pub returns-clause-range : goal.returns-clause-range
returns-clause-range c v words s e = (command_says v words s e).fits
