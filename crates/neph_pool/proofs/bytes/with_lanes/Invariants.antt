use Rattle.std.proofs.Common.{◌≡◌, length, take}
use Rattle.std.specs.Int.{w64, to_le_bytes}
use Rattle.neph_pool.specs.Bytes.{with_bytes}
use Rattle.neph_pool.proofs.bytes.with_lanes.Given as goal

abbrev pub invariant-loop-i : goal.invariant-loop-i
invariant-loop-i l = record {
  size : length l.word ≡ 8;
  word : l.word ≡ with_bytes (to_le_bytes w64 l.old) l.lane (take l.i l.bytes);
}
