use Rattle.std.proofs.Common.{arith, sym, subst}
use Rattle.neph_base.specs.declared.command.Command.TheVariants as command
use Rattle.neph_guest.specs.declared.row.Row.{Row}
use Rattle.neph_guest.specs.OwnHalf.{IsOwnMemory}
use Rattle.neph_guest.specs.Turns.{RowDone, memory_step}
use Rattle.neph_memory.specs.Domains.{IsUnchanged}
use Rattle.neph_guest.proofs.Staying.{still_stands, read_done}
use Rattle.neph_guest.proofs.memory.read.Given as given
use Rattle.neph_guest.proofs.Staying.{read_lacks}
use Rattle.neph_guest.specs.Turns.{IsWithoutSpare, turn_of}
use Rattle.neph_guest.proofs.memory.read.Goals as goal

unchanged : (g : given.Over) (c : goal.After-row_of_read g) → IsUnchanged g.P.FramePool.world c.args.pool.now c.args.d.now c.read-answer.new.pool c.read-answer.new.self
unchanged g c = record {
  entries = c.read-answer.ensures.entries;
  own = c.read-answer.ensures.own;
  root = c.read-answer.ensures.root;
  id = c.read-answer.ensures.id;
  hand = c.read-answer.ensures.hand;
  cap = c.read-answer.ensures.moves.others.cap;
  fits = c.read-answer.ensures.moves.fits;
  names = c.read-answer.ensures.moves.names;
}

pub returns-clause-stands : goal.returns-clause-stands
returns-clause-stands g c = still_stands g.P.FramePool.world c.args.pool.now c.args.d.now c.read-answer.new.pool c.read-answer.new.self (unchanged g c) c.requires.stands

pub returns-clause-row : goal.returns-clause-row
returns-clause-row g c = λ o h.
    subst (λ (r : Row). RowDone (IsOwnMemory g.P.FramePool.world c.read-answer.new.pool c.read-answer.new.self) o (command.R c.args.addr c.args.len) (memory_step o (command.R c.args.addr c.args.len)) r)
    (sym c.row_of_read.ensures)
    (read_done g.P.FramePool.world c.args.pool.now c.args.d.now c.read-answer.new.pool c.read-answer.new.self (unchanged g c) o h c.args.addr c.args.len (omega (arith, c.get-number.ensures.value, c.get-number.ensures.range)) c.read-answer.result c.read-answer.ensures.bytes)

pub returns-clause-lacks : goal.returns-clause-lacks
returns-clause-lacks g c =
    let spare = c.args.d.now.own.spare in
    subst (λ (r : Row). IsWithoutSpare (turn_of r) spare) (sym c.row_of_read.ensures) (read_lacks c.read-answer.result spare)
