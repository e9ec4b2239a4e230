use Rattle.neph_script.specs.Text.{program_words}
use Rattle.neph_script.proofs.Printed.{more_printed}
use Rattle.neph_script.proofs.printing.put_programs.Goals as goal

pub loop-program-preserved : goal.loop-program-preserved
loop-program-preserved c =
    more_printed program_words c.args.programs.now c.loop-program.program-index c.program-item.result c.loop-program.out.items c.put_program.new.out.items _ c.loop-program.invariant c.loop-program-test.true c.program-item.is c.in_ok-put_program.ensures
