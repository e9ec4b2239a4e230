use Rattle.std.proofs.Common.{◌≡◌, ◌++◌, drop}
use Rattle.std.specs.List.{flat_map}
use Rattle.neph_script.specs.Text.{lines_text, program_words}
use Rattle.neph_script.proofs.printing.put_programs.Given as goal

abbrev pub invariant-loop-program : goal.invariant-loop-program
invariant-loop-program l = l.out.items ++ lines_text (flat_map program_words (drop l.program-index l.programs)) ≡ l.fn.out.items ++ lines_text (flat_map program_words l.programs)
