use Rattle.std.proofs.Common.{◌≡◌, ◌+◌, ℕ, subst, sym, arith}
use Rattle.neph_evt.specs.PortMap.{PortMap}
use Rattle.neph_evt.specs.Closing.{port_after_close}
use Rattle.neph_evt.proofs.Columns.{ColumnBelow, column_next, column_is_each, end_of_wild, left_fixed}
use Rattle.neph_evt.proofs.links.leave_bound.Goals as goal

pub loop-at-preserved : goal.loop-at-preserved
loop-at-preserved c =
    let f = λ (at : ℕ). port_after_close c.args.dom c.args.number in
    subst (λ (m : PortMap). ColumnBelow f c.args.number (c.loop-at.at + 1) c.args.table.now m) (sym c.leave.ensures) (column_next f c.args.number c.loop-at.at c.args.table.now c.loop-at.table c.loop-at.invariant)

pub returns : goal.returns
returns c =
    let f = λ (at : ℕ). port_after_close c.args.dom c.args.number in
    let whole : c.loop-at.at ≡ 64 = omega arith in
    let all : ColumnBelow f c.args.number 64 c.args.table.now c.loop-at.table = subst (λ (k : ℕ). ColumnBelow f c.args.number k c.args.table.now c.loop-at.table) whole c.loop-at.invariant in
    column_is_each f c.args.number c.args.table.now c.loop-at.table all c.requires.within
    (λ d n ne. left_fixed c.args.dom c.args.number _ (λ bound. ne (sym (end_of_wild c.args.table.now c.args.dom c.args.number d n c.requires.paired c.requires.wild bound))))
