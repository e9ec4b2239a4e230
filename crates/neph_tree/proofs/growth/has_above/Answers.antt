use Rattle.std.proofs.Common.{sym, ◌∙◌}
use Rattle.neph_tree.proofs.AboveLemmas.{above_there, near_there}
use Rattle.neph_tree.proofs.growth.has_above.Goals as goal

pub returns-then-is_near : goal.returns-then-is_near
returns-then-is_near c = λ near. near_there c.args.nodes.now c.args.path.now c.in-Some.end c.args.near c.requires.tree c.requires.path c.in-Some.ensures.some c.if-end-gt0.true c.requires.near (c.is_near.ensures near)

pub returns-else-is_near : goal.returns-else-is_near
returns-else-is_near c = λ there. above_there c.args.nodes.now c.args.path.now c.in-Some.end c.requires.tree c.requires.path c.in-Some.ensures.some c.if-end-gt0.true (sym c.contains.ensures ∙ there)
