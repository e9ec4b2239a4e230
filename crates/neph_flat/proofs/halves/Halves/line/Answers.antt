use Rattle.std.proofs.Common.{◌≡◌, length, subst}
use Rattle.std.specs.Prelude.{slice_set}
use Rattle.neph_model.specs.declared.own.Own.{Own}
use Rattle.neph_model.specs.Laws.{AreGranted}
use Rattle.neph_model.specs.Own.{local_step}
use Rattle.neph_model.specs.Machine.{own_at, guest_at, exposed_at}
use Rattle.neph_flat.proofs.HomeLemmas.{left_alone, own_left}
use Rattle.neph_flat.proofs.halves.Halves.line.Goals as goal

pub ask-requires-clause-granted : goal.ask-requires-clause-granted
ask-requires-clause-granted c =
    let dom = c.args.dom in
    let h = c.args.self.now in
    let same : own_at dom h.own.items ≡ own_at dom (slice_set h.own.items c.get.result c.local.new.o) =
    own_left h.own.items c.get.result dom c.index_mut-o.result.now c.local.new.o c.requires.kept.places c.get.ensures.value c.get.ensures.range c.index_mut-o.ensures.value
    (left_alone c.command_at-command.result c.args.told c.index_mut-o.result.now c.local.new.o (local_step c.args.script.now c.program-program.result c.index_mut-o.result.now c.args.told c.command_at-command.result) c.in_ok-reply.field-0 c.in-None.is c.in_ok-reply.ensures) in
    subst (λ (o : Own). AreGranted (guest_at dom h.registry.tables).grants (length o.pages) (exposed_at dom h.pages)) same (c.requires.kept.granted dom)
