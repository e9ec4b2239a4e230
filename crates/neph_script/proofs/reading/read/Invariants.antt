use Rattle.std.proofs.Common.{◌≡◌, ◌≤◌, ◌+◌, All, length}
use Rattle.std.specs.Prelude.{IsTrue}
use Rattle.neph_script.specs.Grammar.{read_lines, read_script, lines}
use Rattle.neph_script.specs.Seen.{seen, IsSound}
use Rattle.neph_script.proofs.PrintedLines.{IsPrintedLine}
use Rattle.neph_script.proofs.reading.read.Given as goal

abbrev pub invariant-lines : goal.invariant-lines
invariant-lines l =
    record {
      sound : IsSound l.reader;
      line : l.line + length l.rest ≤ length l.bytes + 1;
      read : read_lines l.line (seen l.reader) (lines l.rest) ≡ read_script l.bytes;
      printed : IsTrue l.printed → All IsPrintedLine (lines l.rest);
    }

abbrev pub decreases-lines : goal.decreases-lines
decreases-lines l = length l.rest
