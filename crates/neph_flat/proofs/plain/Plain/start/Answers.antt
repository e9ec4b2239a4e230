use Rattle.std.proofs.Common.{sym, subst}
use Rattle.neph_model.specs.declared.script.Script.{Script}
use Rattle.neph_model.specs.Machine.{Machine}
use Rattle.neph_flat.specs.Halves.{seen}
use Rattle.neph_flat.specs.Sound.{IsSound}
use Rattle.neph_flat.proofs.StartSound.{sound_start}
use Rattle.neph_flat.proofs.plain.Plain.start.Goals as goal

pub invariant_of-result : goal.invariant_of-result
invariant_of-result c =
    let halves = seen c.in_ok-start_halves.field-0 in
    let here = subst (λ (m : Machine). IsSound c.args.s.now m) (sym c.in_ok-start_halves.ensures) (sound_start c.args.s.now c.requires) in
    subst (λ (t : Script). IsSound t halves) (sym c.in_ok-try_clone.ensures) here
