use Rattle.std.proofs.Common.{◌≡◌, ◌++◌, take}
use Rattle.std.specs.List.{flat_map}
use Rattle.neph_p9msg.specs.Grammar.{qid}
use Rattle.neph_p9msg.proofs.encoding.put_qids.Given as goal

abbrev pub invariant-loop-q : goal.invariant-loop-q
invariant-loop-q l = l.draft ≡ l.initial.draft ++ flat_map qid (take l.q-index l.qids)
