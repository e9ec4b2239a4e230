use Rattle.std.proofs.Common.{◌≡◌, ◌+◌, ◌≤◌, ℕ, drop}
use Rattle.std.specs.List.{sum_by}
use Rattle.neph_machine.specs.FrameUses.{tables_in}
use Rattle.neph_machine.specs.Places.{place_at}
use Rattle.neph_turns.specs.Seats.{StandsIn}
use Rattle.neph_turns.proofs.uses.table_count.Given as goal

abbrev pub invariant-loop-place : goal.invariant-loop-place
invariant-loop-place g l =
    let W = g.P.FramePool.world in
    record {
      later : (id : ℕ) → l.place-index ≤ id → place_at id l.places ≡ place_at id l.initial.places;
      stand : (id : ℕ) → l.place-index ≤ id → StandsIn W l.pool id (place_at id l.initial.places);
      same : (id : ℕ) → l.place-index ≤ id → tables_in W l.pool (place_at id l.initial.places) ≡ tables_in W l.initial.pool (place_at id l.initial.places);
      sums : l.count + sum_by (tables_in W l.initial.pool) (drop l.place-index l.initial.places) ≡ sum_by (tables_in W l.initial.pool) l.initial.places;
      shares : W.shares l.pool ≡ W.shares l.initial.pool;
    }
