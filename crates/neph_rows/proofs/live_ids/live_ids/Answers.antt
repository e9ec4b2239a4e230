use Rattle.std.proofs.Common.{ap, ◌∙◌, arith, cond, Bool}
use Rattle.neph_rows.proofs.LiveIds.{none_below, one_below, all_below, read_live}
use Rattle.neph_rows.proofs.live_ids.live_ids.Goals as goal

pub loop-id-init : goal.loop-id-init
loop-id-init c = none_below c.args.lives.now

pub loop-id-preserved : goal.loop-id-preserved
loop-id-preserved c =
    one_below c.loop-id.ids c.with_id-ids.result c.args.lives.now c.loop-id.id (omega arith) c.loop-id.invariant
    (c.with_id-ids.ensures.this ∙ ap (λ (b : Bool). cond b 1 0) (c.is_some.ensures ∙ read_live c.args.lives.now c.loop-id.id c.index-lives-id.result c.loop-id-test.true c.index-lives-id.is))
    c.with_id-ids.ensures.others

pub returns : goal.returns
returns c = all_below c.loop-id.ids c.args.lives.now c.loop-id.id c.loop-id.invariant c.loop-id-test.false
