use Rattle.std.proofs.Common.{sym, ◌∙◌}
use Rattle.neph_flat.specs.Halves.{seen}
use Rattle.neph_flat.proofs.MachineKeeps.{sound_done}
use Rattle.neph_flat.proofs.halves.Halves.entry.Goals as goal

pub returns-clause-kept : goal.returns-clause-kept
returns-clause-kept c =
    sound_done (c.stays_apart.ensures, c.grants_stay.ensures) c.args.script.now c.args.self.now.registry c.args.self.now.own.items c.args.self.now.pages (seen c.step.new.self) c.args.e.now c.args.told c.step.result c.requires
    (sym (c.is_due.ensures.due c.args.script.now) ∙ c.if-not-is_due.false) c.is_due.ensures.sound c.is_due.ensures.low c.step.ensures
