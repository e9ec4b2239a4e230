use Rattle.std.proofs.Common.{◌≡◌, ◌-◌, ◌≤◌, length, take}
use Rattle.neph_ring.specs.Bytes.{bytes_of_words, span}
use Rattle.neph_ring.proofs.bytes.read_bytes.Given as goal

abbrev pub invariant-loop-done : goal.invariant-loop-done
invariant-loop-done g l =
    record {
      done : l.done ≤ length l.into;
      bytes : take l.done l.into ≡ span (bytes_of_words (g.W.Words.words l.initial.page)) l.at l.done;
      words : g.W.Words.words l.page ≡ g.W.Words.words l.initial.page;
      rest : g.W.Words.keeps_rest l.initial.page l.page;
    }

abbrev pub decreases-loop-done : goal.decreases-loop-done
decreases-loop-done g l = length l.initial.into - l.done
