use Rattle.std.proofs.Common.{◌≡◌, ◌-◌}
use Rattle.neph_p9msg.specs.Reading.{counted_at, many_at}
use Rattle.neph_p9msg.proofs.Loop.{with_front}
use Rattle.neph_p9msg.proofs.fields.some_names.Given as goal

abbrev pub invariant-loop : goal.invariant-loop
invariant-loop l = with_front l.names.items (many_at (counted_at 2) (l.n - l.counter) l.rest) ≡ many_at (counted_at 2) l.n l.bytes
