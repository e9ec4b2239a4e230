use Rattle.std.proofs.Common.{◌≡◌, ◌==◌, true, false, sym, ap, ◌∙◌, refl, arith}
use Rattle.std.proofs.lemmas.Grind.{common_steps}
use Rattle.neph_model.specs.declared.own.Own.{Own}
use Rattle.neph_model.specs.Machine.{is_live}
use Rattle.neph_flat.specs.Halves.{seen}
use Rattle.neph_flat.proofs.MachineKeeps.{line_due_is, own_read}
use Rattle.neph_flat.proofs.halves.Halves.is_line_due.Goals as goal

pub returns-then-is_paused-clause-due : goal.returns-then-is_paused-clause-due
returns-then-is_paused-clause-due c =
    let live : is_live c.args.dom c.args.self.now.registry.lives ≡ true = grind (arith, common_steps) in
    λ s. sym (line_due_is s (seen c.args.self.now) c.args.dom c.args.line true true _ live (sym (c.is_paused.ensures c.args.self.now.pages) ∙ c.if-is_paused.true) refl)

pub returns-clause-due : goal.returns-clause-due
returns-clause-due c =
    let live : is_live c.args.dom c.args.self.now.registry.lives ≡ true = grind (arith, common_steps) in
    let here = own_read c.args.self.now.own.items c.get.result c.args.dom c.index.result.now c.requires c.get.ensures.value c.get.ensures.range c.index.ensures in
    λ s. sym (line_due_is s (seen c.args.self.now) c.args.dom c.args.line true false _ live (sym (c.is_paused.ensures c.args.self.now.pages) ∙ c.if-is_paused.false) (ap (λ (o : Own). o.line == c.args.line) (sym here)))
