use Rattle.std.proofs.Common.{◌≡◌, ◌++◌, ◌<◌, ◌≤◌, ◌^◌, drop, length, map}
use Rattle.std.specs.List.{AllByRecursion}
use Rattle.neph_p9srv.specs.State.{trail, qid_of, end_of}
use Rattle.neph_p9srv.proofs.requests.trail.Given as goal

abbrev pub invariant-loop-name : goal.invariant-loop-name
invariant-loop-name l = record {
  qids : l.qids.items ++ map (qid_of l.tree) (trail l.tree l.last (drop l.name-index l.names)) ≡ map (qid_of l.tree) (trail l.tree l.at l.names);
  last : end_of l.last (trail l.tree l.last (drop l.name-index l.names)) ≡ end_of l.at (trail l.tree l.at l.names);
  fits : AllByRecursion (λ q. q.path < 256 ^ 8) l.qids.items;
  most : length l.qids.items ≤ l.name-index;
}
