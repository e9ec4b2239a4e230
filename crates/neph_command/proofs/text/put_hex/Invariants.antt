use Rattle.std.proofs.Common.{◌≡◌, ◌*◌, ◌++◌, drop, length, take}
use Rattle.neph_model.specs.Words.{hex}
use Rattle.neph_command.proofs.text.put_hex.Given as goal

abbrev pub invariant-loop-i : goal.invariant-loop-i
invariant-loop-i l =
    record {
      whole : length l.digits ≡ 128;
      text : take (2 * l.i) l.digits ++ hex (drop l.i l.bytes) ≡ hex l.bytes;
    }
