use Rattle.std.proofs.Common.{◌∙◌, ◌++◌, List, ℕ, ap}
use Rattle.neph_model.specs.Words.{command_words}
use Rattle.neph_script.specs.Text.{body_words}
use Rattle.neph_script.proofs.Printed.{program_put}
use Rattle.neph_script.proofs.printing.put_program.Goals as goal

pub returns : goal.returns
returns c =
    let p = c.args.program.now in
    program_put c.args.out.now.items c.put_word.new.text.items c.put_word-2.new.text.items c.put_word-3.new.text.items c.put_body.new.out.items c.put_word-4.new.text.items p.name (body_words (command_words p.labels) 0 p.commands p.labels)
    c.in_ok-put_word.ensures (c.in_ok-put_word-2.ensures ∙ ap (λ (xs : List ℕ). c.put_word.new.text.items ++ xs) c.items.ensures) c.in_ok-put_word-3.ensures (rw (c.items-2.ensures, c.items-3.ensures) at c.in_ok-put_body.ensures) c.in_ok-put_word-4.ensures
