use Rattle.std.proofs.Common.{arith, rules, ap, sym, ◌∙◌}
use Rattle.neph_script.specs.State.{Read}
use Rattle.neph_script.specs.Grammar.{read_lines, read_script, lines}
use Rattle.neph_script.proofs.PrintedLines.{lines_printed, rest_printed}
use Rattle.neph_script.proofs.reading.read.Goals as goal

pub lines-init : goal.lines-init
unfolding read_script
lines-init c =
    record {
      sound = c.new-reader.ensures.sound;
      line = omega arith;
      read = ap (λ (r : Read). read_lines 1 r (lines c.args.bytes.now)) c.new-reader.ensures.now;
      printed = λ yes. lines_printed c.args.bytes.now (sym c.are_lines_printed-printed.ensures ∙ yes);
    }

pub lines-preserved : goal.lines-preserved
lines-preserved c =
    record {
      sound = search rules;
      line = omega (arith, c.lines.invariant.line, c.first_line.ensures.shorter);
      read = search rules;
      printed = λ yes. rest_printed (lines c.lines.rest.now) c.first_line.result.0.now (lines c.first_line.result.1.now) c.first_line.ensures.lines (c.lines.invariant.printed yes);
    }
