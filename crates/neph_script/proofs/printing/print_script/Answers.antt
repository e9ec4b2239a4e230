use Rattle.neph_script.proofs.PrintLaws.{if_spells, if_again}
use Rattle.neph_script.proofs.printing.print_script.Goals as goal

pub returns-clause-spells : goal.returns-clause-spells
returns-clause-spells c = if_spells c.args.s.now c.printed.result c.printed.ensures

pub returns-clause-again : goal.returns-clause-again
returns-clause-again c = if_again c.args.s.now c.printed.result c.printed.ensures
