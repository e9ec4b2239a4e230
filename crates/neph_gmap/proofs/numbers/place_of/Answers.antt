use Rattle.std.proofs.Common.{◌≡◌, ◌+◌, ◌-◌, ◌/◌, ◌<◌, ◌≤◌, ℕ, length, get_or, sym, ◌∙◌, arith}
use Rattle.std.proofs.lemmas.List.{get_or_default}
use Rattle.neph_gmap.proofs.Rising.{in_order}
use Rattle.neph_gmap.proofs.numbers.place_of.Goals as goal

pub loop-low-preserved-then-get : goal.loop-low-preserved-then-get
loop-low-preserved-then-get c =
    let i = c.loop-low.invariant in
    let low : ℕ = c.loop-low.low in
    let high : ℕ = c.loop-low.high in
    let m : ℕ = low + (high - low) / 2 in
    let fit : m < length c.args.list.now = omega (arith, i.bound) in
    let one : get_or c.args.list.now m 0 ≡ c.get.result = get_or_default c.args.list.now m 0 c.index-list-middle.result fit ∙ sym c.index-list-middle.is ∙ sym c.get.ensures.value in
    let at : get_or c.args.list.now m 0 < c.args.v = omega (arith, one, c.if-get.true, c.get-in-loop-low.ensures.value) in record {
      order = omega arith;
      bound = i.bound;
      below = λ k lt. let le : get_or c.args.list.now k 0 ≤ get_or c.args.list.now m 0 = in_order c.args.list.now k m c.requires (omega arith) (omega (arith, i.bound)) in omega (arith, le, at);
      above = i.above;
    }

pub loop-low-preserved : goal.loop-low-preserved
loop-low-preserved c =
    let i = c.loop-low.invariant in
    let low : ℕ = c.loop-low.low in
    let high : ℕ = c.loop-low.high in
    let m : ℕ = low + (high - low) / 2 in
    let fit : m < length c.args.list.now = omega (arith, i.bound) in
    let one : get_or c.args.list.now m 0 ≡ c.get.result = get_or_default c.args.list.now m 0 c.index-list-middle.result fit ∙ sym c.index-list-middle.is ∙ sym c.get.ensures.value in
    let at : c.args.v ≤ get_or c.args.list.now m 0 = omega (arith, one, c.if-get.false, c.get-in-loop-low.ensures.value) in record {
      order = omega arith;
      bound = omega (arith, i.bound);
      below = i.below;
      above = λ k le fit. let up : get_or c.args.list.now m 0 ≤ get_or c.args.list.now k 0 = in_order c.args.list.now m k c.requires le fit in omega (arith, up, at);
    }
