use Rattle.std.proofs.Common.{◌≡◌, ◌++◌, drop, map}
use Rattle.neph_model.specs.Words.{command_words}
use Rattle.neph_script.specs.Text.{lines_text}
use Rattle.neph_script.proofs.printing.put_commands.Given as goal

abbrev pub invariant-loop-command : goal.invariant-loop-command
invariant-loop-command l = l.out.items ++ lines_text (map (command_words l.labels) (drop l.command-index l.commands)) ≡ l.fn.out.items ++ lines_text (map (command_words l.labels) l.commands)
