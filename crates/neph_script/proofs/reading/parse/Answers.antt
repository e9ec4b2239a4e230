use Rattle.neph_script.proofs.SpellsLaws.{if_spelled, if_formed, if_fault, only_spelled}
use Rattle.neph_script.proofs.reading.parse.Goals as goal

pub returns-clause-spelled : goal.returns-clause-spelled
returns-clause-spelled c = if_spelled c.args.bytes.now c.read.result c.read.ensures

pub returns-clause-formed : goal.returns-clause-formed
returns-clause-formed c = if_formed c.args.bytes.now c.read.result c.read.ensures

pub returns-clause-only : goal.returns-clause-only
returns-clause-only c = only_spelled c.args.bytes.now c.read.result c.read.ensures

pub returns-clause-fault : goal.returns-clause-fault
returns-clause-fault c = if_fault c.args.bytes.now c.read.result c.read.ensures
