use Rattle.neph_script.proofs.LineLaws.{judged_stands}
use Rattle.neph_script.proofs.SaidLaws.{judged_again}
use Rattle.neph_script.proofs.laws.lines_say.Goals as goal

pub returns : goal.returns
returns c r words i = (judged_stands r words i, judged_again r words i)
