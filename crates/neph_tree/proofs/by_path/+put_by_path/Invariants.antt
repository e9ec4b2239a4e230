use Rattle.std.proofs.Common.{length}
use Rattle.neph_tree.proofs.by_path.+put_by_path.Given as goal

abbrev pub decreases-put_by_path : goal.decreases-put_by_path
decreases-put_by_path l = length l.found.now.items
