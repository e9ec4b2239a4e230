use Rattle.std.proofs.Common.{◌≡◌, ◌&&◌, drop}
use Rattle.std.specs.List.{list_all}
use Rattle.neph_script.specs.Grammar.{is_printed}
use Rattle.neph_script.proofs.reading.are_printed.Given as goal

abbrev pub invariant-loop-b : goal.invariant-loop-b
invariant-loop-b l = (l.all && list_all is_printed (drop l.b-index l.line)) ≡ list_all is_printed l.line
