use Rattle.neph_command.proofs.CommandLaws.{command_fault}
use Rattle.neph_command.proofs.laws.faults_from_the_left.Goals as goal

pub returns : goal.returns
returns c v words w e = command_fault v words w e
