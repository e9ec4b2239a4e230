use Rattle.std.proofs.Common.{◌≡◌, ◌*◌, ◌++◌, length, take, drop}
use Rattle.neph_command.proofs.Hex.{ReadTo, pairs}
use Rattle.neph_command.proofs.word.piece.Given as goal

abbrev pub invariant-values : goal.invariant-values
invariant-values l =
    record {
      whole : length l.digits ≡ 128;
      so_far : ReadTo l.initial.digits l.digits l.i l.most;
    }

abbrev pub invariant-pairs : goal.invariant-pairs
invariant-pairs l =
    record {
      whole : length l.kept ≡ 64;
      so_far : pairs l.digits ≡ take l.i l.kept ++ pairs (drop (2 * l.i) l.digits);
    }
