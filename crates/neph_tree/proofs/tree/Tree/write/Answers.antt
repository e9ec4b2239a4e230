use Rattle.std.proofs.Common.{◌≡◌, true, sym, ap, ◌∙◌}
use Rattle.neph_base.specs.Path.{is_path}
use Rattle.neph_tree.specs.Places.{is_within, home}
use Rattle.neph_tree.proofs.TreeLemmas.{IsTree-after}
use Rattle.neph_tree.proofs.LimitLemmas.{write_allowed, write_why}
use Rattle.neph_tree.proofs.tree.Tree.write.Goals as goal

pub invariant_of-self : goal.invariant_of-self
invariant_of-self c =
    IsTree-after c.put_within.result c.self.inside.nodes c.put_within.new.nodes c.bytes-in-Ok.result.now c.in-Ok.value.items c.self.invariant (ap (λ p. is_path p) c.bytes-in-Ok.ensures.value ∙ c.bytes-in-Ok.ensures.path.form) c.put_within.ensures.ok c.put_within.ensures.err

pub returns-in-Ok-clause-allowed : goal.returns-in-Ok-clause-allowed
returns-in-Ok-clause-allowed c =
    let own : is_within (home c.args.me) c.args.p.now ≡ true =
    ap (λ q. is_within (home c.args.me) q) (sym c.bytes-2.ensures.value) ∙ ap (λ h. is_within h c.bytes-2.result.now) (sym (c.bytes.ensures ∙ c.home-home.ensures)) ∙ sym c.if-not-is_within.ensures
    in
    write_allowed c.args.self.now c.args.me c.args.p.now c.args.v.now own c.put_within.result c.self.inside.nodes c.bytes-in-Ok.result.now c.in-Ok.value.items c.self.view_is c.bytes-in-Ok.ensures.value c.in-Ok.ensures c.put_within.ensures.allowed

pub returns-in-Ok-clause-why : goal.returns-in-Ok-clause-why
returns-in-Ok-clause-why c =
    let own : is_within (home c.args.me) c.args.p.now ≡ true =
    ap (λ q. is_within (home c.args.me) q) (sym c.bytes-2.ensures.value) ∙ ap (λ h. is_within h c.bytes-2.result.now) (sym (c.bytes.ensures ∙ c.home-home.ensures)) ∙ sym c.if-not-is_within.ensures
    in
    write_why c.args.self.now c.args.me c.args.p.now c.args.v.now own c.put_within.result c.self.inside.nodes c.bytes-in-Ok.result.now c.in-Ok.value.items c.self.view_is c.bytes-in-Ok.ensures.value c.in-Ok.ensures c.put_within.ensures.why
