use Rattle.std.proofs.Common.{◌≡◌, ◌++◌, ℕ, List, ap, ◌∙◌}
use Rattle.std.specs.Prelude.{codes}
use Rattle.neph_tree.specs.Places.{home, decimal}
use Rattle.neph_xsclone.specs.Rewriting.{backend}
use Rattle.neph_xsclone.proofs.Adding.{five_added}
use Rattle.neph_xsclone.proofs.start.add_device.Goals as goal

pub returns : goal.returns
returns c =
    let d = c.args.d in
    let kind = c.args.kind.now in
    let devices : c.in_ok-devices.devices.items ≡ home d ++ codes "/device/" = c.in_ok-devices.ensures ∙ ap (λ (h : List ℕ). h ++ codes "/device/") (c.bytes.ensures ∙ c.home.ensures) in
    let front : c.in_ok-front.front.items ≡ home d ++ codes "/device/" ++ kind = c.in_ok-front.ensures ∙ ap (λ (f : List ℕ). f ++ kind) (c.deref.ensures.value ∙ devices) in
    let back : c.in_ok-back.back.items ≡ backend kind d = c.in_ok-back.ensures in
    five_added (home d ++ codes "/device/" ++ kind) (backend kind d) (decimal d) _ _ _ _ _ _ _ _ _ _ _ _ _ _
    (c.deref-2.ensures.value ∙ front) (c.deref-3.ensures.value ∙ back) (c.deref-4.ensures.value ∙ front) (c.deref-5.ensures.value ∙ back) (c.deref-6.ensures.value ∙ front) (c.deref-7.ensures.value ∙ back)
    (c.bytes-2.ensures ∙ c.new.ensures) (c.deref-8.ensures.value ∙ back)
    c.in_ok-add.ensures c.in_ok-add-2.ensures c.in_ok-add-3.ensures c.in_ok-add-4.ensures c.in_ok-add-5.ensures
