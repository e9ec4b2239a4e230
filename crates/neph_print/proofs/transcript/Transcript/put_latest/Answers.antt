use Rattle.std.proofs.Common.{◌++◌, List, ℕ, None, ap, refl, ◌∙◌}
use Rattle.neph_print.specs.declared.transcript.Transcript.{Transcript}
use Rattle.neph_print.proofs.CourseLemmas.{latest_put}
use Rattle.neph_print.proofs.transcript.Transcript.put_latest.Goals as goal

pub put_entry_line-requires : goal.put_entry_line-requires
put_entry_line-requires c = c.requires.1.has_put.texts

pub returns-clause-tells : goal.returns-clause-tells
returns-clause-tells c = λ history told.
    let new : Transcript = record { text = c.extend_from_slice.new.self; line = c.put_entry_line.new.text; families = c.note_child.new.families; texts = c.put_entry_line.new.texts; latest = None } in
    let line = rw (c.clear.ensures.items, c.actor_of.ensures.value) at c.in_ok-put_entry_line.ensures.line in
    latest_put c.args.s.now c.args.self.now new c.in-Some.latest history told c.in-Some.is refl
    (c.in_ok-extend_from_slice.ensures.items ∙ ap (λ (xs : List ℕ). c.args.self.now.text.items ++ xs) (c.deref.ensures.value ∙ line)) c.note_child.ensures.after c.put_entry_line.ensures.texts
