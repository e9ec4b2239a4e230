use Rattle.std.proofs.Common.{◌+◌, take, drop, arith}
use Rattle.std.proofs.lemmas.List.{take_rest}
use Rattle.neph_script.proofs.Cuts.{cut_here, cut_nowhere, line_more, line_last}
use Rattle.neph_script.proofs.reading.first_line.Goals as goal

pub returns-in-None-clause-lines : goal.returns-in-None-clause-lines
returns-in-None-clause-lines c = line_last c.args.text.now c.requires (cut_nowhere 10 c.args.text.now (λ k h. c.in-None.ensures k (omega arith) h))

pub returns-in-Some-clause-lines : goal.returns-in-Some-clause-lines
returns-in-Some-clause-lines c =
    let is = c.in-Some.ensures in
    simp take_rest (line_more c.args.text.now (take c.in-Some.at c.args.text.now) (drop (c.in-Some.at + 1) c.args.text.now) (cut_here 10 c.args.text.now c.in-Some.at (omega arith) (λ k h. is.0.before k (omega arith) h) is.1))
