use Rattle.std.proofs.Common.{◌≡◌, ◌++◌, drop, map}
use Rattle.neph_script.specs.Spelling.{start_words}
use Rattle.neph_script.specs.Text.{lines_text}
use Rattle.neph_script.proofs.printing.put_starts.Given as goal

abbrev pub invariant-loop-start : goal.invariant-loop-start
invariant-loop-start l = l.out.items ++ lines_text (map (start_words l.programs) (drop l.start-index l.starts)) ≡ l.fn.out.items ++ lines_text (map (start_words l.programs) l.starts)
