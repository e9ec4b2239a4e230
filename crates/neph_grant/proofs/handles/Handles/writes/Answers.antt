use Rattle.std.proofs.Common.{Option, false, ap, sym, ◌∙◌}
use Rattle.std.specs.Option.{option_map_or}
use Rattle.neph_grant.specs.declared.handles.GrantMapping.{GrantMapping}
use Rattle.neph_grant.specs.Handles.{Mappings, writes_entry, writes_of_entry}
use Rattle.neph_grant.proofs.SlotLemmas.{some_slot}
use Rattle.neph_grant.proofs.handles.Handles.writes.Goals as goal

pub returns : goal.returns
returns c =
    c.any_writable_of.ensures ∙ sym (some_slot (λ (slot : Option GrantMapping). option_map_or (writes_of_entry c.args.granter c.args.r) slot false) c.self.inside.mappings 64 c.self.invariant)
    ∙ ap (λ (m : Mappings). writes_entry m c.args.granter c.args.r) c.self.view_is
