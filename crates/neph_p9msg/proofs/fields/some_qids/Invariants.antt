use Rattle.std.proofs.Common.{◌≡◌, ◌-◌}
use Rattle.neph_p9msg.specs.Reading.{many_at, qid_at}
use Rattle.neph_p9msg.proofs.Loop.{with_front}
use Rattle.neph_p9msg.proofs.fields.some_qids.Given as goal

abbrev pub invariant-loop : goal.invariant-loop
invariant-loop l = with_front l.qids.items (many_at qid_at (l.n - l.counter) l.rest) ≡ many_at qid_at l.n l.bytes
