use Rattle.std.proofs.Common.{Option, false, ap, sym, ◌∙◌}
use Rattle.std.specs.Option.{option_map_or}
use Rattle.neph_grant.specs.declared.handles.GrantMapping.{GrantMapping}
use Rattle.neph_grant.specs.Handles.{Mappings, maps_entry, is_of_entry}
use Rattle.neph_grant.proofs.SlotLemmas.{some_slot}
use Rattle.neph_grant.proofs.handles.Handles.maps.Goals as goal

pub returns : goal.returns
returns c =
    c.any_of.ensures ∙ sym (some_slot (λ (slot : Option GrantMapping). option_map_or (is_of_entry c.args.granter c.args.r) slot false) c.self.inside.mappings 64 c.self.invariant)
    ∙ ap (λ (m : Mappings). maps_entry m c.args.granter c.args.r) c.self.view_is
