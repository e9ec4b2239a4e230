use Rattle.std.proofs.Common.{Bool, cond, ap, ◌∙◌}
use Rattle.neph_rows.proofs.LiveIds.{ids_set}
use Rattle.neph_rows.proofs.births.set_life.Goals as goal

pub returns-clause-ids : goal.returns-clause-ids
returns-clause-ids c =
    ids_set c.args.ids.now c.with_id.result c.args.lives.now.items c.args.at c.args.life c.requires.there c.requires.ids
    (c.with_id.ensures.this ∙ ap (λ (b : Bool). cond b 1 0) c.is_some-3.ensures) c.with_id.ensures.others
