-- A line of one domain leaves the own half of every other as it was.
use Rattle.std.proofs.Common.{◌≡◌, Some, None, refl, ap, ◌∙◌}
use Rattle.std.proofs.lemmas.List.{get_or-set_other}
use Rattle.neph_base.specs.declared.reply.Entry.TheVariants.{Line}
use Rattle.neph_model.specs.Machine.{no_own, own_at, program_run}
use Rattle.neph_model.specs.Step.{Outcome, own_step, step}
use Rattle.neph_model.specs.Laws.{WritesAlone}
use Rattle.neph_laws.proofs.Local.{local_alone, locked_is}

pub writes_alone : WritesAlone
writes_alone s m id line other told far =
    let e = Line id line in
    let p = program_run id m.shared.lives in
    let o = own_at id m.own in
    elim (own_step s p o e told) as (λ g. own_step s p o e told ≡ g → own_at other (step s m e told).machine.own ≡ own_at other m.own) [
      | Some did ↦ λ is. ap (λ (w : Outcome). own_at other w.machine.own) (local_alone s m e told did is) ∙ get_or-set_other m.own id other did.0 no_own far
      | None ↦ λ is. ap (λ (w : Outcome). own_at other w.machine.own) (locked_is s m e told is) ∙ get_or-set_other m.own id other _ no_own far
    ] refl
