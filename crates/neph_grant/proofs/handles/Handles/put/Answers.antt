use Rattle.std.proofs.Common.{Some, ap, sym, ◌∙◌, is_none}
use Rattle.neph_grant.specs.Handles.{free_handle}
use Rattle.neph_grant.proofs.SlotLemmas.{least_slot}
use Rattle.neph_grant.proofs.handles.Handles.put.Goals as goal

pub returns-in_err-free-clause-value : goal.returns-in_err-free-clause-value
returns-in_err-free-clause-value c =
    c.from_residual.ensures ∙ sym (c.in_err-free.was) ∙ c.first_free.ensures ∙ sym (least_slot is_none c.self.inside.mappings 64 c.self.invariant) ∙ ap free_handle c.self.view_is

pub returns-clause-value : goal.returns-clause-value
returns-clause-value c =
    ap Some c.in_ok-h.ensures.1 ∙ sym (c.in_ok-free.was) ∙ c.first_free.ensures ∙ sym (least_slot is_none c.self.inside.mappings 64 c.self.invariant) ∙ ap free_handle c.self.view_is
