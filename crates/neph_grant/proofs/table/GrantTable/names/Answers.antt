use Rattle.std.proofs.Common.{ℕ, nat_lt, ap, sym, ◌∙◌}
use Rattle.neph_grant.specs.Table.{Grants, names_page}
use Rattle.neph_grant.specs.Uses.{is_of_page}
use Rattle.neph_grant.proofs.CountLemmas.{any_counted}
use Rattle.neph_grant.proofs.SlotLemmas.{some_slot}
use Rattle.neph_grant.proofs.table.GrantTable.names.Goals as goal

pub returns : goal.returns
returns c =
    let p : ℕ = c.get.result in
    ap (nat_lt 0) (c.self.invariant.counted p c.get.ensures.range) ∙ any_counted (is_of_page p) c.self.inside.entries
    ∙ sym (some_slot (is_of_page p) c.self.inside.entries 64 c.self.invariant.slots)
    ∙ ap (λ (t : Grants). names_page t p) c.self.view_is ∙ ap (names_page c.args.self.now) c.get.ensures.value
