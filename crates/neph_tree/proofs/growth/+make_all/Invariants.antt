use Rattle.std.proofs.Common.{length}
use Rattle.neph_tree.proofs.growth.+make_all.Given as goal

abbrev pub decreases-make_all : goal.decreases-make_all
decreases-make_all l = length l.list.now
