use Rattle.std.proofs.Common.{length, ◌∙◌}
use Rattle.neph_tree.proofs.GrowthLemmas.{grown_back}
use Rattle.neph_tree.proofs.growth.make.Goals as goal

pub returns-in-Err-clause-err : goal.returns-in-Err-clause-err
returns-in-Err-clause-err c =
    c.cut_front.ensures ∙ grown_back c.args.nodes.now c.grow_and_add.new.nodes c.args.path.now c.grow_and_add.new.top (length c.args.path.now) c.requires.tree c.grow_and_add.ensures.grown
