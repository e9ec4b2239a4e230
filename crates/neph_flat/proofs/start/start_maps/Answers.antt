use Rattle.std.proofs.Common.{◌++◌, ◌∷◌, [], ◌∙◌, ap, length}
use Rattle.neph_model.specs.Machine.{Exposed}
use Rattle.neph_flat.proofs.StartLists.{one_none_more, exposed_more}
use Rattle.neph_flat.proofs.start.start_maps.Goals as goal

pub loop-preserved : goal.loop-preserved
loop-preserved c =
    c.in_ok-push-3.ensures.items ∙ ap (λ (m : Exposed). c.loop.list.items ++ m ∷ []) c.new-in-loop.ensures ∙ one_none_more _ _ _ _ (length c.args.starts.now) _ c.loop.auto.counter c.loop.invariant

pub loop-start-preserved : goal.loop-start-preserved
loop-start-preserved c =
    exposed_more c.args.starts.now c.loop-start.list.items c.push-in-loop-start.new.self.items _ c.loop-start._start-index c.loop-start-test.true
    (c.in_ok-push-2.ensures.items ∙ ap (λ (m : Exposed). c.loop-start.list.items ++ m ∷ []) c.in_ok-start_exposed.ensures) c.loop-start.invariant
