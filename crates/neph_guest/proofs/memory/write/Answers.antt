use Rattle.std.proofs.Common.{length, sym, ap, subst, arith}
use Rattle.neph_base.specs.declared.command.Command.TheVariants as command
use Rattle.neph_guest.specs.declared.row.Row.{Row}
use Rattle.neph_guest.specs.OwnHalf.{IsOwnMemory}
use Rattle.neph_guest.specs.Turns.{RowDone, HandDone, memory_step, turn_of}
use Rattle.neph_guest.proofs.Staying.{virtual_page, write_done, write_hand}
use Rattle.neph_guest.proofs.Staying.{write_lacks, write_look}
use Rattle.neph_guest.specs.Turns.{IsWithoutSpare, LookDone}
use Rattle.neph_guest.proofs.memory.write.Goals as goal
use Rattle.neph_gmap.specs.GuestPages.{GuestPages}

pub returns-clause-row : goal.returns-clause-row
returns-clause-row g c = λ o h.
    let W = g.P.FramePool.world in
    subst (λ (r : Row). RowDone (IsOwnMemory W c.begin_write-step.new.pool c.begin_write-step.new.self) o (command.W c.args.addr c.args.bytes.now) (memory_step o (command.W c.args.addr c.args.bytes.now)) r)
    (sym c.row_of_write.ensures)
    (write_done W c.args.pool.now c.args.d.now c.begin_write-step.new.pool c.begin_write-step.new.self (ap (λ (m : GuestPages). length m.pages) c.begin_write-step.ensures.map)
    c.begin_write-step.ensures.mappings c.begin_write-step.ensures.leaves o h c.args.addr c.args.bytes.now (virtual_page c.args.addr (omega (arith, c.get-number.ensures.value, c.get-number.ensures.range)))
    c.begin_write-step.result c.begin_write-step.ensures.step c.begin_write-step.ensures.bytes)

pub returns-clause-hand : goal.returns-clause-hand
returns-clause-hand g c =
    let W = g.P.FramePool.world in
    subst (λ (r : Row). HandDone W c.begin_write-step.new.pool c.begin_write-step.new.self (command.W c.args.addr c.args.bytes.now) c.args.d.now.hand (turn_of r))
    (sym c.row_of_write.ensures)
    (write_hand W c.args.pool.now c.args.d.now c.begin_write-step.new.pool c.begin_write-step.new.self c.args.addr c.args.bytes.now c.args.d.now.hand
    c.begin_write-step.ensures.mappings (ap (λ (m : GuestPages). m.pages) c.begin_write-step.ensures.map) (virtual_page c.args.addr (omega (arith, c.get-number.ensures.value, c.get-number.ensures.range)))
    c.begin_write-step.result c.begin_write-step.ensures.step c.begin_write-step.ensures.hand c.begin_write-step.ensures.met)

pub returns-clause-lacks : goal.returns-clause-lacks
returns-clause-lacks g c =
    let spare = c.args.d.now.own.spare in
    subst (λ (r : Row). IsWithoutSpare (turn_of r) spare) (sym c.row_of_write.ensures) (write_lacks c.begin_write-step.result spare)

pub returns-clause-look : goal.returns-clause-look
returns-clause-look g c =
    let W = g.P.FramePool.world in
    subst (λ (r : Row). LookDone W c.args.pool.now c.args.d.now c.begin_write-step.new.self.own (command.W c.args.addr c.args.bytes.now) (turn_of r))
    (sym c.row_of_write.ensures)
    (write_look W c.args.pool.now c.args.d.now c.begin_write-step.new.pool c.begin_write-step.new.self c.args.addr c.args.bytes.now
    c.begin_write-step.result c.begin_write-step.ensures.alone c.begin_write-step.ensures.shared c.begin_write-step.ensures.own)
