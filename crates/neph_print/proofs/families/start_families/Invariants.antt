use Rattle.std.proofs.Common.{◌≡◌, length, take}
use Rattle.std.specs.List.{range_with_len}
use Rattle.neph_print.proofs.families.start_families.Given as goal

abbrev pub invariant-loop-id : goal.invariant-loop-id
invariant-loop-id l =
    record {
      whole : length l.families ≡ 64;
      front : take l.id l.families ≡ range_with_len 0 l.id;
    }
