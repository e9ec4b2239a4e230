use Rattle.std.proofs.Common.{◌-◌, length, take, drop, ◌∙◌}
use Rattle.neph_tree.proofs.GrowthLemmas.{first_at, step_at, skip_at, path_text}
use Rattle.neph_tree.proofs.FrontLemmas.{tree_first, tree_later}
use Rattle.neph_tree.proofs.growth.grow.Goals as goal
use Rattle.neph_tree.proofs.growth.grow.Goals.{then-b-eq-SLASH+in_ok-make_front-2, else-b-eq-SLASH}

pub make_front-requires : goal.make_front-requires
make_front-requires c = tree_first c.args.nodes.now c.args.path.now c.requires.tree c.requires.path

pub make_front-requires-then-b-eq-SLASH : goal.make_front-requires-then-b-eq-SLASH
make_front-requires-then-b-eq-SLASH c =
    let path = c.args.path.now in
    tree_later c.args.nodes.now c.loop-i.nodes path (take (length path - 1) (drop 1 path)) c.loop-i.i (path_text path c.requires.path) c.requires.path c.requires.tree c.loop-i-test.true c.if-b-eq-SLASH.true c.loop-i.invariant.made

pub loop-i-init : goal.loop-i-init
loop-i-init c =
    let core = first_at c.args.nodes.now c.make_front.new.nodes c.args.path.now c.args.top.now c.make_front.new.top c.requires.path c.requires.top c.in_ok-make_front.ensures.ok c.in_ok-make_front.ensures.first in
    record { made = core.0; grown = core.1 }

pub loop-i-preserved : goal.loop-i-preserved
loop-i-preserved c =
    let path = c.args.path.now in
    let text = take (length path - 1) (drop 1 path) in
    let v = c.loop-i.invariant in
    let whole = path_text path c.requires.path in
    elim c.if-b-eq-SLASH.branch [
      | then-b-eq-SLASH+in_ok-make_front-2 w ↦
          let core = step_at c.args.nodes.now c.loop-i.nodes c.if-b-eq-SLASH.nodes path text c.loop-i.top c.if-b-eq-SLASH.top c.loop-i.i whole c.requires.path c.loop-i-test.true w.if-b-eq-SLASH.true v.made v.grown
          (w.nodes-is ∙ w.in_ok-make_front-2.ensures.ok) (w.top-is ∙ w.in_ok-make_front-2.ensures.first)
          in record { made = core.0; grown = core.1 }
      | else-b-eq-SLASH w ↦
          let core = skip_at c.args.nodes.now c.loop-i.nodes c.if-b-eq-SLASH.nodes path text c.loop-i.top c.if-b-eq-SLASH.top c.loop-i.i whole c.loop-i-test.true w.if-b-eq-SLASH.false v.made v.grown w.nodes-is w.top-is
          in record { made = core.0; grown = core.1 }
    ]
