use Rattle.std.proofs.Common.{◌≡◌, ◌-◌, ◌≤◌, length, take}
use Rattle.neph_ring.specs.Bytes.{bytes_of_words, with_bytes}
use Rattle.neph_ring.proofs.bytes.write_bytes.Given as goal

abbrev pub invariant-loop-done : goal.invariant-loop-done
invariant-loop-done g l =
    record {
      done : l.done ≤ length l.from;
      bytes : bytes_of_words (g.W.Words.words l.page) ≡ with_bytes (bytes_of_words (g.W.Words.words l.initial.page)) l.at (take l.done l.from);
      rest : g.W.Words.keeps_rest l.initial.page l.page;
    }

abbrev pub decreases-loop-done : goal.decreases-loop-done
decreases-loop-done g l = length l.from - l.done
