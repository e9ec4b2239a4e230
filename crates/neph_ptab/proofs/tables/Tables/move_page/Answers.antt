use Rattle.std.proofs.Common.{◌≡◌, ◌<◌, ◌^◌, ◌==◌, ◌+◌, ◌++◌, ◌∷◌, [], ℕ, List, true, take, get_or, if◌then◌else◌, sym, ap, subst, ◌∙◌, refl, arith}
use Rattle.std.proofs.lemmas.List.{take_more, take_all}
use Rattle.std.proofs.lemmas.Grind.{get_or_default_zero}
use Rattle.neph_pool.proofs.Calls.{moves_refl, moves_trans, same_counts_refl, same_counts_trans}
use Rattle.neph_ptab.specs.Moves.{IsLocal, moved_walk, is_shown, walk_moved}
use Rattle.neph_ptab.specs.Tables.{walk_at, IsTables, IsRetabled}
use Rattle.neph_ptab.proofs.Retabling.{retabled_refl, retabled_trans, one_more, local_after, shown_at}
use Rattle.neph_ptab.proofs.tables.Tables.move_page.Goals as goal

pub move_one-requires-clause-stands : goal.move_one-requires-clause-stands
move_one-requires-clause-stands g c =
    let W = g.P.FramePool.world in
    subst (λ (r : ℕ). IsTables (W.entries c.loop-v.pool c.loop-v.seat) r) (sym c.loop-v.invariant.top) c.loop-v.invariant.tables.tables

pub move_one-requires-clause-local : goal.move_one-requires-clause-local
move_one-requires-clause-local g c =
    let W = g.P.FramePool.world in
    let v = c.v-item.result in
    let small : v < 2 ^ 18 = omega (arith, c.get-number.ensures.value, c.get-number.ensures.range) in
    let is : v ≡ get_or c.args.vpns.now c.loop-v.v-index 0 = c.v-item.is ∙ get_or_default_zero c.args.vpns.now c.loop-v.v-index v c.loop-v-test.true in
    let has : is_shown v c.args.vpns.now ≡ true = ap (λ (k : ℕ). is_shown k c.args.vpns.now) is ∙ shown_at c.args.vpns.now c.loop-v.v-index c.loop-v-test.true in
    subst (λ (r : ℕ). IsLocal (walk_at (W.entries c.loop-v.pool c.loop-v.seat) r v)) (sym c.loop-v.invariant.top)
    (local_after c.args.to c.args.alone _ _ _ (c.loop-v.invariant.walks v small) (c.requires.local v small has))

pub loop-v-init : goal.loop-v-init
loop-v-init g c = record { moves = moves_refl _ _ _ c.requires.seat.0; counts = same_counts_refl _ _; met = refl; top = refl; tables = retabled_refl _ _ c.requires.stands; walks = λ u lt. refl }

pub loop-v-preserved : goal.loop-v-preserved
loop-v-preserved g c =
    let W = g.P.FramePool.world in
    let i = c.loop-v.invariant in
    let v = c.v-item.result in
    let mid = W.entries c.loop-v.pool c.loop-v.seat in
    let fs = W.entries c.move_one.new.pool c.move_one.new.seat in
    let is : v ≡ get_or c.args.vpns.now c.loop-v.v-index 0 = c.v-item.is ∙ get_or_default_zero c.args.vpns.now c.loop-v.v-index v c.loop-v-test.true in
    let more : take (c.loop-v.v-index + 1) c.args.vpns.now ≡ take c.loop-v.v-index c.args.vpns.now ++ v ∷ []
    = take_more c.args.vpns.now c.loop-v.v-index 0 c.loop-v-test.true ∙ ap (λ (k : ℕ). take c.loop-v.v-index c.args.vpns.now ++ k ∷ []) (sym is) in record {
      moves = moves_trans W _ _ _ _ _ _ i.moves c.move_one.ensures.moves;
      counts = same_counts_trans W _ _ _ i.counts c.move_one.ensures.counts;
      met = c.move_one.ensures.met ∙ i.met;
      top = c.move_one.ensures.root ∙ i.top;
      tables = retabled_trans _ mid fs _ i.tables (subst (λ (r : ℕ). IsRetabled mid fs r) i.top c.move_one.ensures.tables);
      walks = λ u lt.
          one_more c.args.to c.args.alone u v (take c.loop-v.v-index c.args.vpns.now) _ _ _ _ more (i.walks u lt)
          (subst (λ (r : ℕ). walk_at fs r u ≡ (if u == v then moved_walk c.args.to c.args.alone (walk_at mid r u) else walk_at mid r u)) i.top (c.move_one.ensures.walks u lt));
    }

pub returns-clause-walks : goal.returns-clause-walks
returns-clause-walks g c = λ u lt.
    let W = g.P.FramePool.world in
    let es = W.entries c.args.pool.now c.args.seat.now in
    c.loop-v.invariant.walks u lt
    ∙ ap (λ (xs : List ℕ). walk_moved c.args.to c.args.alone xs u (walk_at es c.args.self.now.root u)) (take_all c.loop-v.v-index c.args.vpns.now c.loop-v-test.false)
