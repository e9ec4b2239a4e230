use Rattle.std.proofs.Common.{◌≡◌, ◌&&◌, drop}
use Rattle.std.specs.List.{list_all}
use Rattle.neph_script.specs.Bytes.{may_stand_in_lines}
use Rattle.neph_script.proofs.reading.are_lines_printed.Given as goal

abbrev pub invariant-loop-b : goal.invariant-loop-b
invariant-loop-b l = (l.all && list_all may_stand_in_lines (drop l.b-index l.text)) ≡ list_all may_stand_in_lines l.text
