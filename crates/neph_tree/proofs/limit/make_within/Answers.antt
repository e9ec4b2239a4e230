use Rattle.std.proofs.Common.{inr, refl, sym, ap, length, ◌∙◌}
use Rattle.neph_tree.specs.Places.{home}
use Rattle.neph_tree.specs.Refusals.{is_over}
use Rattle.neph_tree.proofs.GrowthLemmas.{grown_back}
use Rattle.neph_tree.proofs.TreeLemmas.{made_new}
use Rattle.neph_tree.proofs.limit.make_within.Goals as goal

pub returns-then-is_over-clause-why : goal.returns-then-is_over-clause-why
returns-then-is_over-clause-why c =
    let made = c.in-Ok.ensures.ok ∙ made_new c.args.nodes.now c.args.path.now c.args.value.items c.requires.new in
    inr (refl, ap (λ m. is_over m (home c.args.me)) (sym made) ∙ sym c.is_over.ensures ∙ c.if-is_over.true)

pub returns-then-is_over-clause-err : goal.returns-then-is_over-clause-err
returns-then-is_over-clause-err c =
    c.cut_front.ensures ∙ grown_back c.args.nodes.now c.make.new.nodes c.args.path.now c.in-Ok.made.top (length c.args.path.now) c.requires.tree c.in-Ok.ensures.grown
