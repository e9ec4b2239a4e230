use Rattle.std.proofs.Common.{◌++◌, ◌∷◌, [], ◌∙◌, ap, length}
use Rattle.neph_model.specs.declared.own.Own.{Own}
use Rattle.neph_flat.proofs.StartLists.{one_none_more}
use Rattle.neph_flat.proofs.start.start_owns.Goals as goal

pub loop-preserved : goal.loop-preserved
loop-preserved c =
    c.in_ok-push-3.ensures.items ∙ ap (λ (o : Own). c.loop.list.items ++ o ∷ []) c.no_own-in-loop.ensures ∙ one_none_more _ _ _ _ (length c.args.starts.now) _ c.loop.auto.counter c.loop.invariant
