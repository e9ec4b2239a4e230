use Rattle.neph_boot.specs.Opening.{IsOpening, Keeps}
use Rattle.neph_boot.proofs.start.open_lines.Given as goal

abbrev pub invariant-loop-n : goal.invariant-loop-n
invariant-loop-n g l = record {
  opening : IsOpening g.P.FramePool.world l.m l.n;
  kept : Keeps g.P.FramePool.world l.initial.m l.m;
}
