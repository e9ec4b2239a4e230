use Rattle.std.proofs.Common.{◌≡◌, ◌<◌, ℕ, refl, sym, ap, ◌∙◌, arith, Some, is_none}
use Rattle.neph_evt.specs.Opening.{is_closed, least_closed}
use Rattle.neph_evt.proofs.Keeping.{find_here, find_next, closed_test, made}
use Rattle.neph_evt.proofs.links.least_closed.Goals as goal

pub loop-number-init : goal.loop-number-init
unfolding least_closed
loop-number-init c = refl

pub loop-number-preserved : goal.loop-number-preserved
loop-number-preserved c =
    let tested = closed_test c.get-in-loop-number.result c.is_none.result c.is_none.ensures in
    let here : is_closed c.args.table.now c.args.dom c.loop-number.number ≡ c.is_none.result =
    ap (λ (d : ℕ). is_closed c.args.table.now d c.loop-number.number) (sym c.get.ensures.value) ∙ ap is_none (sym c.get-in-loop-number.ensures.port) ∙ tested in
    c.loop-number.invariant ∙ find_next c.args.table.now c.args.dom c.loop-number.number (omega arith) (here ∙ c.if-is_none.false)

pub returns-then-is_none : goal.returns-then-is_none
returns-then-is_none c =
    let tested = closed_test c.get-in-loop-number.result c.is_none.result c.is_none.ensures in
    let here : is_closed c.args.table.now c.args.dom c.loop-number.number ≡ c.is_none.result =
    ap (λ (d : ℕ). is_closed c.args.table.now d c.loop-number.number) (sym c.get.ensures.value) ∙ ap is_none (sym c.get-in-loop-number.ensures.port) ∙ tested in
    let low : 0 < c.from.result = omega arith in
    let high : c.from.result < 64 = omega arith in
    made c.new.result _ c.from.result c.new.ensures (low, high) ∙ ap Some c.from.ensures
    ∙ sym (c.loop-number.invariant ∙ find_here c.args.table.now c.args.dom c.loop-number.number (omega arith) (here ∙ c.if-is_none.true))
