use Rattle.std.proofs.Common.{◌≡◌, ◌++◌, take}
use Rattle.std.specs.List.{flat_map}
use Rattle.neph_p9msg.specs.Grammar.{string}
use Rattle.neph_p9msg.proofs.encoding.put_names.Given as goal

abbrev pub invariant-loop-name : goal.invariant-loop-name
invariant-loop-name l = l.draft ≡ l.initial.draft ++ flat_map string (take l.name-index l.names)
