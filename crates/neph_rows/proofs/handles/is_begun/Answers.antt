use Rattle.std.proofs.Common.{List, ap, ◌∙◌}
use Rattle.std.specs.Prelude.{◌==◌}
use Rattle.std.specs.List.{list_any}
use Rattle.neph_model.specs.Trap.{is_begun}
use Rattle.neph_rows.specs.Records.{Records}
use Rattle.neph_rows.specs.declared.slots.Slot.{Slot}
use Rattle.neph_rows.proofs.SlotGuests.{any_begun}
use Rattle.neph_rows.proofs.handles.is_begun.Goals as goal

pub returns : goal.returns
returns c =
    c.begun_in.ensures ∙ ap (λ (xs : List Slot). list_any (λ (s : Slot). list_any (λ child. child == c.args.id) s.begun.items) xs) c.deref.ensures.value ∙ any_begun c.r.inside.slots.items c.args.id
    ∙ ap (λ (x : Records). is_begun x.tables c.args.id) c.r.view_is
