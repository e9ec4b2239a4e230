use Rattle.std.proofs.Common.{◌≡◌, Some, sym, ap, ◌∙◌}
use Rattle.neph_tree.specs.Places.{behind}
use Rattle.neph_tree.proofs.PlaceLemmas.{behind_yes, behind_no}
use Rattle.neph_xsclone.specs.Rewriting.{backends, backend, moved_or_same}
use Rattle.neph_xsclone.proofs.Moving.{backend_none, backend_other, backend_moved}
use Rattle.neph_xsclone.proofs.value.backend_in_clone.Goals as goal

pub returns-then-not-is_component : goal.returns-then-not-is_component
returns-then-not-is_component c =
    let value = c.args.value.now in
    let found : behind backends value ≡ Some c.in-Some.text.now = behind_yes backends value c.in-Some.ensures.cases.0 ∙ ap Some (sym c.in-Some.ensures.cases.1) in
    c.in_ok-copy_of-in-Some.ensures
    ∙ backend_other c.args.parent c.args.child value c.in-Some.text.now c.kind_in-kind.result.now found c.kind_in-kind.ensures (sym c.is_component.ensures ∙ c.if-not-is_component.true)

pub returns-in_ok-moved_or_same-in-Some : goal.returns-in_ok-moved_or_same-in-Some
returns-in_ok-moved_or_same-in-Some c =
    let value = c.args.value.now in
    let found : behind backends value ≡ Some c.in-Some.text.now = behind_yes backends value c.in-Some.ensures.cases.0 ∙ ap Some (sym c.in-Some.ensures.cases.1) in
    c.in_ok-moved_or_same-in-Some.ensures ∙ ap (λ f. moved_or_same f c.deref-in-Some.result.now value) (c.deref.ensures.value ∙ c.in_ok-from-in-Some.ensures)
    ∙ ap (λ t. moved_or_same (backend c.kind_in-kind.result.now c.args.parent) t value) (c.deref-in-Some.ensures.value ∙ c.in_ok-to-in-Some.ensures)
    ∙ backend_moved c.args.parent c.args.child value c.in-Some.text.now c.kind_in-kind.result.now found c.kind_in-kind.ensures (sym c.is_component.ensures ∙ c.if-not-is_component.false)

pub returns-in_ok-copy_of-in-None : goal.returns-in_ok-copy_of-in-None
returns-in_ok-copy_of-in-None c =
    let value = c.args.value.now in
    c.in_ok-copy_of-in-None.ensures ∙ backend_none c.args.parent c.args.child value (behind_no backends value c.in-None.ensures.cases)
