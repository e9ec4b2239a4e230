use Rattle.std.proofs.Common.{refl}
use Rattle.neph_machine.specs.declared.turn.Turn.TheVariants.{Noted as Entered}
use Rattle.neph_machine.proofs.Surveying.{plain_surveyed}
use Rattle.neph_core.specs.declared.machine.Machine.{Machine}
use Rattle.neph_core.specs.Course.{entries_after}
use Rattle.neph_core.specs.Does.{Lacks}
use Rattle.neph_core.proofs.Standing.{goes_as, goes_quietly, lacks, lacks_told}
use Rattle.neph_core.proofs.machine.Machine.turn.Goals as goal

pub put_latest-requires : goal.put_latest-requires
put_latest-requires c =
    let n = c.requires.running in
    (entries_after c.args.self.now.frames.script n.0, n.1.tells)

pub turn-requires-clause-surveyed : goal.turn-requires-clause-surveyed
turn-requires-clause-surveyed c = plain_surveyed

pub turn-requires-clause-running : goal.turn-requires-clause-running
turn-requires-clause-running c = (c.requires.running.0, c.requires.running.1.frames)

pub returns-in-Rested : goal.returns-in-Rested
returns-in-Rested c = λ before stands.
    let new : Machine = record { frames = c.turn.new.machine; transcript = c.put_latest.new.self } in
    goes_quietly c.args.self.now new before c.args.actor c.in_ok-turn.field-0 _ c.in-Rested.is refl (c.in_ok-turn.ensures before stands.frames)
    (c.put_latest.ensures.tells (entries_after c.args.self.now.frames.script before) stands.tells)

pub returns-in-Moved : goal.returns-in-Moved
returns-in-Moved c = λ before stands.
    let new : Machine = record { frames = c.turn.new.machine; transcript = c.put_latest.new.self } in
    goes_quietly c.args.self.now new before c.args.actor c.in_ok-turn.field-0 _ c.in-Moved.is refl (c.in_ok-turn.ensures before stands.frames)
    (c.put_latest.ensures.tells (entries_after c.args.self.now.frames.script before) stands.tells)

pub returns-in-Noted : goal.returns-in-Noted
returns-in-Noted c = λ before stands.
    let new : Machine = record { frames = c.turn.new.machine; transcript = c.note.new.self } in
    let entries = entries_after c.args.self.now.frames.script before in
    goes_as c.args.self.now new before c.args.actor c.in_ok-turn.field-0 (Entered c.in-Noted.field-0) c.in-Noted.is (c.in_ok-turn.ensures before stands.frames)
    (c.note.ensures c.args.self.now.frames.script entries (c.put_latest.ensures.tells entries stands.tells))

pub returns-in_err-put_latest : goal.returns-in_err-put_latest
returns-in_err-put_latest c = λ before stands.
    let new : Machine = record { frames = c.args.self.now.frames; transcript = c.put_latest.new.self } in
    let told = c.put_latest.ensures.tells (entries_after c.args.self.now.frames.script before) stands.tells in
    let kept : Lacks c.args.self.now new before = record { stands = record { frames = stands.frames; tells = told }; same = refl } in
    lacks_told c.args.self.now new before _ c.from_residual.result c.from_residual.ensures.0 kept

pub returns-in_err-turn : goal.returns-in_err-turn
returns-in_err-turn c = λ before stands.
    let new : Machine = record { frames = c.turn.new.machine; transcript = c.put_latest.new.self } in
    let kept = lacks c.args.self.now new before (c.in_err-turn.ensures before stands.frames) (c.put_latest.ensures.tells (entries_after c.args.self.now.frames.script before) stands.tells) in
    lacks_told c.args.self.now new before _ c.from_residual-in_err-turn.result c.from_residual-in_err-turn.ensures.0 kept
