use Rattle.std.proofs.Common.{◌≡◌, ◌≢◌, ◌<◌, ◌^◌, ◌==◌, ◌+◌, ◌++◌, ◌∷◌, [], ℕ, Bool, List, true, take, get_or, if◌then◌else◌, sym, ap, subst, ◌∙◌, refl, arith}
use Rattle.std.proofs.lemmas.List.{take_more, take_all}
use Rattle.std.proofs.lemmas.Grind.{get_or_default_zero}
use Rattle.neph_pool.proofs.Calls.{moves_refl, moves_trans, same_counts_refl, same_counts_trans}
use Rattle.neph_ptab.specs.declared.walk.Walk.TheVariants.{None as Unmapped}
use Rattle.neph_ptab.specs.Tables.{walk_at, IsTables, IsRetabled}
use Rattle.neph_ptab.proofs.Retabling.{retabled_refl, retabled_trans, shown_at}
use Rattle.neph_gmap.specs.GuestPages.{has_number}
use Rattle.neph_memory.specs.Exposed.{turned, walk_turned}
use Rattle.neph_memory.proofs.Turning.{one_more, some_after}
use Rattle.neph_memory.proofs.exposing.turn_all.Goals as goal

pub turn_one-requires-clause-seat : goal.turn_one-requires-clause-seat
turn_one-requires-clause-seat g c =
    let W = g.P.FramePool.world in
    let i = c.loop-v.invariant in
    (i.moves.fits, (c.requires.seat.1.0, ap (λ (ns : ℕ → Bool). ns c.requires.seat.1.0) i.moves.names ∙ c.requires.seat.1.1))

pub turn_one-requires-clause-stands : goal.turn_one-requires-clause-stands
turn_one-requires-clause-stands g c =
    let W = g.P.FramePool.world in
    subst (λ (r : ℕ). IsTables (W.entries c.loop-v.pool c.loop-v.seat) r) (sym c.loop-v.invariant.top) c.loop-v.invariant.tables.tables

pub turn_one-requires-clause-mapped : goal.turn_one-requires-clause-mapped
turn_one-requires-clause-mapped g c =
    let W = g.P.FramePool.world in
    let v = c.v-item.result in
    let small : v < 2 ^ 18 = omega (arith, c.get-number.ensures.value, c.get-number.ensures.range) in
    let is : v ≡ get_or c.args.vpns.now c.loop-v.v-index 0 = c.v-item.is ∙ get_or_default_zero c.args.vpns.now c.loop-v.v-index v c.loop-v-test.true in
    let has : has_number v c.args.vpns.now ≡ true = ap (λ (k : ℕ). has_number k c.args.vpns.now) is ∙ shown_at c.args.vpns.now c.loop-v.v-index c.loop-v-test.true in
    subst (λ (r : ℕ). walk_at (W.entries c.loop-v.pool c.loop-v.seat) r v ≢ Unmapped) (sym c.loop-v.invariant.top)
    (some_after c.args.place.now c.args.p _ _ _ (c.loop-v.invariant.walks v small) (c.requires.mapped v small has))

pub loop-v-init : goal.loop-v-init
loop-v-init g c = record { moves = moves_refl _ _ _ c.requires.seat.0; counts = same_counts_refl _ _; met = refl; top = refl; tables = retabled_refl _ _ c.requires.stands; walks = λ u lt. refl }

pub loop-v-preserved : goal.loop-v-preserved
loop-v-preserved g c =
    let W = g.P.FramePool.world in
    let i = c.loop-v.invariant in
    let v = c.v-item.result in
    let place = c.args.place.now in
    let es = W.entries c.args.pool.now c.args.seat.now in
    let mid = W.entries c.loop-v.pool c.loop-v.seat in
    let fs = W.entries c.turn_one.new.pool c.turn_one.new.seat in
    let is : v ≡ get_or c.args.vpns.now c.loop-v.v-index 0 = c.v-item.is ∙ get_or_default_zero c.args.vpns.now c.loop-v.v-index v c.loop-v-test.true in
    let more : take (c.loop-v.v-index + 1) c.args.vpns.now ≡ take c.loop-v.v-index c.args.vpns.now ++ v ∷ []
    = take_more c.args.vpns.now c.loop-v.v-index 0 c.loop-v-test.true ∙ ap (λ (k : ℕ). take c.loop-v.v-index c.args.vpns.now ++ k ∷ []) (sym is) in record {
      moves = moves_trans W _ _ _ _ _ _ i.moves c.turn_one.ensures.moves;
      counts = same_counts_trans W _ _ _ i.counts c.turn_one.ensures.counts;
      met = c.turn_one.ensures.met ∙ i.met;
      top = c.turn_one.ensures.root ∙ i.top;
      tables = retabled_trans _ mid fs _ i.tables (subst (λ (r : ℕ). IsRetabled mid fs r) i.top c.turn_one.ensures.tables);
      walks = λ u lt.
          one_more place c.args.p u v (take c.loop-v.v-index c.args.vpns.now) (take (c.loop-v.v-index + 1) c.args.vpns.now) (walk_at es c.args.tables.now.root u) (walk_at mid c.args.tables.now.root u)
          (walk_at fs c.args.tables.now.root u) more (i.walks u lt)
          (subst (λ (r : ℕ). walk_at fs r u ≡ (if u == v then turned place c.args.p (walk_at mid r u) else walk_at mid r u)) i.top (c.turn_one.ensures.walks u lt));
    }

pub returns-clause-walks : goal.returns-clause-walks
returns-clause-walks g c = λ u lt.
    let W = g.P.FramePool.world in
    let es = W.entries c.args.pool.now c.args.seat.now in
    c.loop-v.invariant.walks u lt
    ∙ ap (λ (xs : List ℕ). walk_turned c.args.place.now c.args.p xs u (walk_at es c.args.tables.now.root u)) (take_all c.loop-v.v-index c.args.vpns.now c.loop-v-test.false)
