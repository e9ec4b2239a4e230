use Rattle.std.proofs.Common.{ℕ, List, Some, sym, ap, ◌∙◌, arith}
use Rattle.neph_base.specs.declared.reply.Reply.{Reply}
use Rattle.neph_base.specs.declared.reply.Reply.TheVariants.{Done}
use Rattle.std.specs.Prelude.{slice_set}
use Rattle.neph_model.specs.Lent.{PageBack, own_replied}
use Rattle.neph_model.specs.Own.{with_page}
use Rattle.neph_model.specs.Machine.{own_at}
use Rattle.neph_model.specs.Step.{Locked}
use Rattle.neph_model.specs.Trap.{exposed_bytes}
use Rattle.neph_rows.specs.Records.{Records, shared_of}
use Rattle.neph_rows.proofs.GrantRows.{home_row}
use Rattle.neph_flat.proofs.HomeLemmas.{named_in, gone_on}
use Rattle.neph_flat.proofs.halves.Halves.ungrant.Goals as goal

pub take_home-requires-clause-inside : goal.take_home-requires-clause-inside
take_home-requires-clause-inside c = (named_in _ _ _ c.args.reference c.in-Ok-Some.pfn c.requires.granted c.in-Ok-Some.field-0 c.in-Ok-Some.field-0-is c.in-Ok-Some.ensures.named).inside

pub returns-in-Ok-Some : goal.returns-in-Ok-Some
returns-in-Ok-Some c = λ told.
    let h = c.args.self.now in
    let dom = c.args.dom in
    let pfn = c.in-Ok-Some.pfn in
    let bytes = exposed_bytes h.pages dom pfn in
    let b : PageBack = record { pfn = pfn; bytes = bytes } in
    let home = c.take_home.ensures in
    let on = c.answer-in-Ok-Some.ensures in
    let left = c.answer-in-Ok-Some.new.self.pages in
    let now : Records → Reply → Locked = λ r y. record { shared = shared_of r left; reply = y; back = Some b } in
    let places = c.requires.places in
    record {
      back = Some b;
      row = home_row h.registry c.ungrant.new.r h.pages dom c.args.reference told pfn left c.in-Ok-Some.field-0 c.in-Ok-Some.field-0-is (c.in-Ok-Some.ensures.row h.pages) c.in-Ok-Some.ensures.same (on.pages ∙ home.pages)
          ∙ ap (λ (r : Records). now r Done) (sym (on.registry ∙ home.registry)) ∙ ap (now c.answer-in-Ok-Some.new.self.registry) (sym on.answer);
      own = gone_on h.own.items c.take_home.new.self.own.items c.answer-in-Ok-Some.new.self.own.items dom (with_page (own_at dom h.own.items) pfn (Some bytes)) c.answer-in-Ok-Some.result
          (omega (arith, places, home.low)) home.own (on.own ∙ ap (λ (y : Reply). slice_set c.take_home.new.self.own.items dom (own_replied (own_at dom c.take_home.new.self.own.items) y)) (sym on.answer));
    }
