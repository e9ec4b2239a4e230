use Rattle.std.proofs.Common.{◌<◌, length}
use Rattle.neph_gmap.proofs.tests.pages_and_their_mappings.Given as goal

abbrev pub invariant-loop-n : goal.invariant-loop-n
invariant-loop-n g l = l.p < length l.map.pages
