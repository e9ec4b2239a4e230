use Rattle.std.proofs.Common.{ap, ◌∙◌, refl, sym}
use Rattle.std.specs.FinMap as map
use Rattle.neph_grant.specs.Table.{Grants}
use Rattle.neph_grant.proofs.CountLemmas.{one_more_use}
use Rattle.neph_grant.proofs.SlotLemmas.{slot_is}
use Rattle.neph_grant.proofs.table.GrantTable.put.Goals as goal

pub invariant_of-self : goal.invariant_of-self
invariant_of-self c =
    one_more_use c.self.inside.entries c.self.inside.uses c.args.r c.get-page.result c.args.entry c.self.invariant c.requires.range c.get-page.ensures.range
    (slot_is c.self.inside.entries c.args.r c.args.r _ refl (ap (λ (t : Grants). map.get t c.args.r) c.self.view_is ∙ c.requires.free))
    (sym c.get-page.ensures.value)
