use Rattle.std.proofs.Common.{List, ap, ◌∙◌}
use Rattle.std.specs.List.{list_any}
use Rattle.neph_grant.specs.Handles.{maps_entry}
use Rattle.neph_model.specs.Trap.{is_mapped}
use Rattle.neph_rows.specs.Records.{Records}
use Rattle.neph_rows.specs.declared.slots.Slot.{Slot}
use Rattle.neph_rows.proofs.SlotGuests.{any_mapped}
use Rattle.neph_rows.proofs.grants.is_mapped.Goals as goal

pub returns : goal.returns
returns c =
    c.mapped_in.ensures ∙ ap (λ (xs : List Slot). list_any (λ (s : Slot). maps_entry s.sharing.handles c.args.granter c.args.reference) xs) c.deref.ensures.value ∙ any_mapped c.r.inside.slots.items c.args.granter c.args.reference
    ∙ ap (λ (x : Records). is_mapped x.tables c.args.granter c.args.reference) c.r.view_is
