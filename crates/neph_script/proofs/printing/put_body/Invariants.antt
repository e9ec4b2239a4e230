use Rattle.std.proofs.Common.{◌≡◌, ◌++◌, drop}
use Rattle.neph_model.specs.Words.{command_words}
use Rattle.neph_script.specs.Text.{lines_text, body_words}
use Rattle.neph_script.proofs.printing.put_body.Given as goal

abbrev pub invariant-loop-label : goal.invariant-loop-label
invariant-loop-label l = l.out.items ++ lines_text (body_words (command_words l.labels) l.at l.rest (drop l.label-index l.labels)) ≡ l.fn.out.items ++ lines_text (body_words (command_words l.labels) 0 l.commands l.labels)
