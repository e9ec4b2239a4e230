use Rattle.neph_command.proofs.CommandLaws.{one_table}
use Rattle.neph_command.proofs.laws.one_table.Goals as goal

pub returns : goal.returns
returns c labels d = one_table labels d
