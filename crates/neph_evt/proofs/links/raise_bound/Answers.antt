use Rattle.std.proofs.Common.{◌≡◌, ◌+◌, ℕ, subst, sym, arith}
use Rattle.neph_evt.specs.PortMap.{PortMap}
use Rattle.neph_evt.specs.Sending.{port_after_send}
use Rattle.neph_evt.proofs.Columns.{ColumnBelow, column_next, column_zero, column_is_each, end_of_wild, event_fixed, event_zero}
use Rattle.neph_evt.proofs.links.raise_bound.Goals as goal

pub loop-at-init : goal.loop-at-init
loop-at-init c = column_zero (port_after_send c.args.dom c.args.number) c.args.number c.args.table.now (event_zero c.args.dom c.args.number)

pub loop-at-preserved : goal.loop-at-preserved
loop-at-preserved c =
    let f = port_after_send c.args.dom c.args.number in
    subst (λ (m : PortMap). ColumnBelow f c.args.number (c.loop-at.at + 1) c.args.table.now m) (sym c.notify.ensures) (column_next f c.args.number c.loop-at.at c.args.table.now c.loop-at.table c.loop-at.invariant)

pub returns : goal.returns
returns c =
    let f = port_after_send c.args.dom c.args.number in
    let whole : c.loop-at.at ≡ 64 = omega arith in
    let all : ColumnBelow f c.args.number 64 c.args.table.now c.loop-at.table = subst (λ (k : ℕ). ColumnBelow f c.args.number k c.args.table.now c.loop-at.table) whole c.loop-at.invariant in
    column_is_each f c.args.number c.args.table.now c.loop-at.table all c.requires.within
    (λ d n ne. event_fixed c.args.dom c.args.number d _ (λ bound. ne (sym (end_of_wild c.args.table.now c.args.dom c.args.number d n c.requires.paired c.requires.wild bound))))
