use Rattle.std.proofs.Common.{ℕ, Some, sym, ap, ◌∙◌}
use Rattle.neph_evt.specs.Closing.{port_after_close}
use Rattle.neph_evt.specs.PortMap.{with_port}
use Rattle.neph_evt.proofs.Columns.{none_is_each, one_is_each, end_of_unbound, end_of_inter, left_fixed}
use Rattle.neph_evt.proofs.links.part.Goals as goal

pub returns-in-Unbound : goal.returns-in-Unbound
returns-in-Unbound c =
    let is = c.requires.channel ∙ ap Some c.in-Unbound.is in
    none_is_each (λ (at : ℕ). port_after_close c.args.dom c.args.number) c.args.table.now
    (λ d n. left_fixed c.args.dom c.args.number _ (end_of_unbound c.args.table.now c.args.dom c.args.number c.in-Unbound.field-0 d n c.requires.paired is))

pub returns-in-Inter : goal.returns-in-Inter
returns-in-Inter c =
    let is = c.requires.channel ∙ ap Some c.in-Inter.is in
    c.leave.ensures
    ∙ ap (λ (e : ℕ). with_port c.args.table.now e c.in-Inter.n (port_after_close c.args.dom c.args.number)) c.get.ensures.value
    ∙ one_is_each (λ (at : ℕ). port_after_close c.args.dom c.args.number) c.args.table.now c.in-Inter.other c.in-Inter.n
    (λ d n apart. left_fixed c.args.dom c.args.number _ (λ bound.
    let ends = end_of_inter c.args.table.now c.args.dom c.args.number c.in-Inter.other c.in-Inter.n d n c.requires.paired is bound in
    apart (λ i. (sym ends.0 i, sym ends.1 i))))
