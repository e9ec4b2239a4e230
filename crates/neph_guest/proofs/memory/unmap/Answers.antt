use Rattle.std.proofs.Common.{length, sym, ap, subst, ◌∙◌, arith}
use Rattle.neph_base.specs.declared.command.Command.TheVariants as command
use Rattle.neph_guest.specs.declared.row.Row.{Row}
use Rattle.neph_guest.specs.OwnHalf.{IsOwnMemory}
use Rattle.neph_guest.specs.Turns.{RowDone, HandDone, memory_step, row_of_unmap, turn_of}
use Rattle.neph_guest.proofs.Staying.{unmap_done, unmap_hand}
use Rattle.neph_guest.proofs.Staying.{unmap_lacks}
use Rattle.neph_guest.specs.Turns.{IsWithoutSpare}
use Rattle.neph_guest.proofs.memory.unmap.Goals as goal
use Rattle.neph_gmap.specs.declared.page.Page.{Page}
use Rattle.std.proofs.Common.{List}

pub returns-clause-row : goal.returns-clause-row
returns-clause-row g c = λ o h.
    let W = g.P.FramePool.world in
    subst (λ (r : Row). RowDone (IsOwnMemory W c.unmap_page-found.new.pool c.unmap_page-found.new.self) o (command.Unmap c.args.vpn) (memory_step o (command.Unmap c.args.vpn)) r)
    (sym (c.row_of_unmap.ensures ∙ ap row_of_unmap c.unmap_page-found.ensures.answer))
    (unmap_done W c.args.pool.now c.args.d.now c.unmap_page-found.new.pool c.unmap_page-found.new.self (ap (λ (ps : List Page). length ps) c.unmap_page-found.ensures.pages)
    c.unmap_page-found.ensures.bytes c.unmap_page-found.ensures.leaves o h c.args.vpn (omega (arith, c.get-number.ensures.value, c.get-number.ensures.range)) c.unmap_page-found.ensures.mappings)

pub returns-clause-hand : goal.returns-clause-hand
returns-clause-hand g c =
    let W = g.P.FramePool.world in
    subst (λ (r : Row). HandDone W c.unmap_page-found.new.pool c.unmap_page-found.new.self (command.Unmap c.args.vpn) c.args.d.now.hand (turn_of r))
    (sym c.row_of_unmap.ensures)
    (unmap_hand W c.args.pool.now c.args.d.now c.unmap_page-found.new.pool c.unmap_page-found.new.self (command.Unmap c.args.vpn) c.args.d.now.hand c.unmap_page-found.result c.unmap_page-found.ensures.hand)

pub returns-clause-lacks : goal.returns-clause-lacks
returns-clause-lacks g c =
    let spare = c.args.d.now.own.spare in
    subst (λ (r : Row). IsWithoutSpare (turn_of r) spare) (sym c.row_of_unmap.ensures) (unmap_lacks c.unmap_page-found.result spare)
