use Rattle.std.proofs.Common.{◌≡◌, ◌≢◌, ◌<◌, ◌/◌, ◌*◌, ℕ, None, IsSome, refl, subst, ◌∙◌, arith}
use Rattle.neph_pool.proofs.Calls.{moves_refl, moves_trans, same_counts_refl, same_counts_trans}
use Rattle.neph_pool.proofs.Rows.{same_or_not}
use Rattle.neph_ptab.specs.Tables.{leaf_at}
use Rattle.neph_local.proofs.Starting.{starts_leafed, number_is, leaf_more}
use Rattle.neph_local.proofs.started.add_leaves.Goals as goal

pub add_leaf-requires-clause-needed : goal.add_leaf-requires-clause-needed
add_leaf-requires-clause-needed g c =
    let i : ℕ = c.loop-i.i in
    let lt = c.loop-i-test.true in
    let small : i < 512 = omega (arith, lt, c.requires.few) in
    let n : c.unwrap-v.result ≡ 512 * c.from.result = number_is _ _ _ _ c.new.ensures c.unwrap-v.ensures in
    let at : i ≡ c.unwrap-v.result / 512 = omega (arith, n, c.from.ensures) in
    subst (λ (k : ℕ). leaf_at (g.P.FramePool.world.entries c.loop-i.pool c.loop-i.d.seat) c.loop-i.d.tables.root k ≡ None) at (c.loop-i.invariant.none i (omega arith) small)

pub loop-i-init : goal.loop-i-init
loop-i-init g c = record {
  moves = moves_refl _ _ _ c.requires.builds.fits;
  counts = same_counts_refl _ _;
  builds = c.requires.builds;
  starts = c.requires.starts;
  left = omega arith;
  leaves = λ j lt. absurd (omega (arith, lt));
  none = λ j le lt. c.requires.none j lt;
  own = refl;
  id = refl;
  hand = refl;
}

pub loop-i-preserved : goal.loop-i-preserved
loop-i-preserved g c =
    let W = g.P.FramePool.world in
    let v = c.loop-i.invariant in
    let es = W.entries c.loop-i.pool c.loop-i.d.seat in
    let fs = W.entries c.add_leaf.new.pool c.add_leaf.new.d.seat in
    let i : ℕ = c.loop-i.i in
    let lt = c.loop-i-test.true in
    let n : c.unwrap-v.result ≡ 512 * c.from.result = number_is _ _ _ _ c.new.ensures c.unwrap-v.ensures in
    let at : c.unwrap-v.result / 512 ≡ i = omega (arith, n, c.from.ensures) in
    let here : IsSome (leaf_at fs c.add_leaf.new.d.tables.root i) = subst (λ (k : ℕ). IsSome (leaf_at fs c.add_leaf.new.d.tables.root k)) at c.add_leaf.ensures.leaf in
    let other : (j : ℕ) → j < 512 → j ≢ i → leaf_at fs c.add_leaf.new.d.tables.root j ≡ leaf_at es c.loop-i.d.tables.root j = λ j l k. c.add_leaf.ensures.leaves j l (λ e. k (e ∙ at)) in
    record {
      moves = moves_trans W _ _ _ _ _ _ v.moves c.add_leaf.ensures.moves;
      counts = same_counts_trans _ _ _ _ v.counts c.add_leaf.ensures.counts;
      builds = c.add_leaf.ensures.builds;
      starts = starts_leafed es fs c.loop-i.d.tables.root c.add_leaf.new.d.tables.root c.loop-i.d.own c.add_leaf.new.d.own 0 0 c.add_leaf.ensures.own v.starts c.add_leaf.ensures.mappings c.add_leaf.ensures.bytes;
      left = omega (arith, c.add_leaf.ensures.left, v.left);
      leaves = λ j l. leaf_more es fs c.loop-i.d.tables.root c.add_leaf.new.d.tables.root i j (same_or_not j i) (omega (arith, lt, c.requires.few)) l here other v.leaves;
      none = λ j le l. other j l (λ e. omega (arith, e, le)) ∙ v.none j (omega (arith, le)) l;
      own = c.add_leaf.ensures.own ∙ v.own;
      id = c.add_leaf.ensures.id ∙ v.id;
      hand = c.add_leaf.ensures.hand ∙ v.hand;
    }

pub returns-clause-none : goal.returns-clause-none
returns-clause-none g c = λ i le lt. c.loop-i.invariant.none i (omega (arith, le, c.loop-i.auto.i-end)) lt
