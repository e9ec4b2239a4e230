use Rattle.std.proofs.Common.{arith}
use Rattle.neph_print.specs.Texts.{line_text}
use Rattle.neph_print.proofs.TextLemmas.{behind}
use Rattle.neph_print.proofs.texts.LineTexts.put.Goals as goal

pub returns-clause-texts : goal.returns-clause-texts
returns-clause-texts c =
    let words = line_text c.args.s.now c.program_of-program.result c.args.line in
    let from = behind c.args.text.now.items words c.len-start.result (omega (arith, c.len-start.ensures, c.args.text.now.ok.0)) in
    c.keep.ensures c.args.s.now (rw (c.deref-2.ensures.value, c.in_ok-put_line.ensures) from) c.requires
