use Rattle.std.proofs.Common.{refl, sym, ◌∙◌, arith}
use Rattle.neph_tree.proofs.HomeLemmas.{clear_at, skip_home}
use Rattle.neph_tree.proofs.homes.clear_within.Goals as goal
use Rattle.neph_tree.proofs.homes.clear_within.Goals.{then-has_home, else-has_home}

pub loop-d-init : goal.loop-d-init
loop-d-init c = record { long = c.told-counts; done = λ e below. absurd (omega (arith, below)); left = λ e above. refl }

pub loop-d-preserved : goal.loop-d-preserved
loop-d-preserved c =
    elim c.if-has_home.branch [
      | then-has_home w ↦ clear_at c.args.counts.now c.loop-d.counts c.if-has_home.counts c.args.top.now c.loop-d.d c.loop-d-test.true c.loop-d.invariant (sym c.has_home.ensures ∙ w.if-has_home.true) w.counts-is
      | else-has_home w ↦ skip_home c.args.counts.now c.loop-d.counts c.if-has_home.counts c.args.top.now c.loop-d.d c.loop-d.invariant (sym c.has_home.ensures ∙ w.if-has_home.false) w.counts-is
    ]

pub returns : goal.returns
returns c = λ d inside. c.loop-d.invariant.done d (omega (arith, inside, c.loop-d-test.false))
