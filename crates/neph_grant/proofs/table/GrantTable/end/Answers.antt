use Rattle.std.proofs.Common.{sym, ap, ◌∙◌}
use Rattle.std.specs.FinMap as map
use Rattle.neph_grant.specs.Table.{Grants}
use Rattle.neph_grant.proofs.CountLemmas.{one_use_less, is_used}
use Rattle.neph_grant.proofs.SlotLemmas.{slot_is}
use Rattle.neph_grant.proofs.table.GrantTable.end.Goals as goal

pub overflow_sub-self : goal.overflow_sub-self
overflow_sub-self c =
    is_used c.self.inside.entries c.self.inside.uses c.get-2.result c.get-3.result c.in-Some.entry c.self.invariant c.get-2.ensures.range c.get-3.ensures.range
    (slot_is c.self.inside.entries c.get-2.result c.args.r _ c.get-2.ensures.value (ap (λ (t : Grants). map.get t c.args.r) c.self.view_is ∙ sym c.at.ensures ∙ c.in-Some.is)) (sym c.get-3.ensures.value)

pub invariant_of-self : goal.invariant_of-self
invariant_of-self c =
    one_use_less c.self.inside.entries c.self.inside.uses c.get-2.result c.get-3.result c.in-Some.entry c.self.invariant c.get-2.ensures.range c.get-3.ensures.range
    (slot_is c.self.inside.entries c.get-2.result c.args.r _ c.get-2.ensures.value (ap (λ (t : Grants). map.get t c.args.r) c.self.view_is ∙ sym c.at.ensures ∙ c.in-Some.is)) (sym c.get-3.ensures.value)
