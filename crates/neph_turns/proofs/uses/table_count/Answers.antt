use Rattle.std.proofs.Common.{◌≢◌, ℕ, ◌+◌, ◌≤◌, refl, sym, ap, subst, ◌∙◌, get_or, arith}
use Rattle.std.specs.List.{sum_by}
use Rattle.std.proofs.lemmas.List.{at_drop_all, get_or-set_other}
use Rattle.neph_machine.specs.FrameUses.{tables_in}
use Rattle.neph_machine.specs.declared.place.Place.TheVariants.{Empty}
use Rattle.neph_machine.specs.Places.{place_at}
use Rattle.neph_turns.specs.Seats.{StandsIn}
use Rattle.neph_machine.proofs.Found.{get_same}
use Rattle.neph_turns.proofs.Counted.{sum_rest}
use Rattle.neph_turns.proofs.Tabling.{other_tables}
use Rattle.neph_turns.proofs.uses.table_count.Goals as goal

pub loop-place-init : goal.loop-place-init
loop-place-init g c = record {
  later = λ id le. refl;
  stand = λ id le. c.requires.stand id;
  same = λ id le. refl;
  sums = omega arith;
  shares = refl;
}

pub tables_of-count-requires : goal.tables_of-count-requires
tables_of-count-requires g c =
    let i = c.loop-place.place-index in
    let v = c.loop-place.invariant in
    let here = get_same c.loop-place.places i c.place-item.result Empty (omega (arith, c.loop-place-test.true, c.loop-place.auto.places)) ∙ v.later i (omega arith) in
    (i, subst (StandsIn g.P.FramePool.world c.loop-place.pool i) (sym here) (v.stand i (omega arith)))

pub overflow_add-count : goal.overflow_add-count
overflow_add-count g c =
    let W = g.P.FramePool.world in
    let xs = c.args.places.now in
    let i = c.loop-place.place-index in
    let v = c.loop-place.invariant in
    let here = get_same c.loop-place.places i c.place-item.result Empty (omega (arith, c.loop-place-test.true, c.loop-place.auto.places)) ∙ v.later i (omega arith) in
    let count = c.tables_of-count.ensures.count ∙ ap (tables_in W c.loop-place.pool) here ∙ v.same i (omega arith) in
    let rest = sum_rest (tables_in W c.args.pool.now) xs i (place_at i xs) c.loop-place-test.true (get_same xs i Empty (place_at i xs) c.loop-place-test.true) in
    omega (arith, rest, v.sums, c.requires.few, count)

pub loop-place-preserved : goal.loop-place-preserved
loop-place-preserved g c =
    let W = g.P.FramePool.world in
    let xs = c.args.places.now in
    let i = c.loop-place.place-index in
    let v = c.loop-place.invariant in
    let here = get_same c.loop-place.places i c.place-item.result Empty (omega (arith, c.loop-place-test.true, c.loop-place.auto.places)) ∙ v.later i (omega arith) in
    let count = c.tables_of-count.ensures.count ∙ ap (tables_in W c.loop-place.pool) here ∙ v.same i (omega arith) in
    let rest = sum_rest (tables_in W c.args.pool.now) xs i (place_at i xs) c.loop-place-test.true (get_same xs i Empty (place_at i xs) c.loop-place-test.true) in
    let others = λ (id : ℕ) (le : i + 1 ≤ id).
    let far : i ≢ id = (λ e. omega (arith, e, le)) in
    other_tables W c.loop-place.pool c.tables_of-count.new.pool i id (get_or c.loop-place.places i c.place-item.result) (place_at id xs) far (subst (StandsIn W c.loop-place.pool i) (sym here) (v.stand i (omega arith)))
    (v.stand id (omega (arith, le))) c.tables_of-count.ensures.spares in
    record {
      later = λ id le. get_or-set_other c.loop-place.places i id c.tables_of-count.new.place Empty (λ e. omega (arith, e, le)) ∙ v.later id (omega (arith, le));
      stand = λ id le. (others id le).0;
      same = λ id le. (others id le).1 ∙ v.same id (omega (arith, le));
      sums = omega (arith, rest, v.sums, count);
      shares = c.tables_of-count.ensures.shares ∙ v.shares;
    }

pub returns-clause-count : goal.returns-clause-count
returns-clause-count g c =
    let f = tables_in g.P.FramePool.world c.args.pool.now in
    omega (arith, c.loop-place.invariant.sums, at_drop_all (sum_by f) c.args.places.now c.loop-place.place-index c.loop-place-test.false)
