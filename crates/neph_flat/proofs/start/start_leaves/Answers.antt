use Rattle.std.proofs.Common.{◌++◌, ◌∷◌, [], ap, sym, ◌∙◌}
use Rattle.neph_flat.proofs.StartLists.{range_more}
use Rattle.neph_flat.proofs.start.start_leaves.Goals as goal

pub loop-group-preserved : goal.loop-group-preserved
loop-group-preserved c = c.in_ok-push.ensures.items ∙ ap (λ xs. xs ++ c.loop-group.group ∷ []) c.loop-group.invariant ∙ sym (range_more c.loop-group.group)
