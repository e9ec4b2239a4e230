use Rattle.std.proofs.Common.{◌≡◌, ◌/◌, ℕ, IsSome, sym, subst, ◌∙◌, arith}
use Rattle.neph_pool.proofs.Calls.{moves_trans, same_counts_trans}
use Rattle.neph_ptab.specs.Tables.{leaf_at}
use Rattle.neph_memory.proofs.Making.{made_rest}
use Rattle.neph_local.proofs.Starting.{builds_after}
use Rattle.neph_memory.specs.Building.{IsAmong, Builds}
use Rattle.neph_local.specs.Starts.{StartsTo}
use Rattle.neph_local.proofs.started.start_devices.Goals as goal

pub start_away-requires-clause-made : goal.start_away-requires-clause-made
start_away-requires-clause-made g c = made_rest _ _ _ (IsAmong c.args.frames.now.items) c.loop-n.invariant.builds.made

pub start_away-requires-clause-leaf : goal.start_away-requires-clause-leaf
start_away-requires-clause-leaf g c =
    let lt = c.loop-n-test.true in
    let e : 0 ≡ c.loop-n.n / 512 = omega (arith, lt) in
    subst (λ (k : ℕ). IsSome (leaf_at (g.P.FramePool.world.entries c.loop-n.pool c.loop-n.d.seat) c.loop-n.d.tables.root k)) e
    (subst IsSome (sym (c.loop-n.invariant.leaves 0 (omega arith))) c.requires.leaf)

pub returns-in_err-start_away-clause-leaves : goal.returns-in_err-start_away-clause-leaves
returns-in_err-start_away-clause-leaves g c = λ i lt. c.start_away.ensures.leaves i lt ∙ c.loop-n.invariant.leaves i lt

pub returns-in_err-start_away-clause-moves : goal.returns-in_err-start_away-clause-moves
returns-in_err-start_away-clause-moves g c = moves_trans _ _ _ _ _ _ _ c.loop-n.invariant.moves c.start_away.ensures.moves

pub loop-n-preserved : goal.loop-n-preserved
loop-n-preserved g c =
    let W = g.P.FramePool.world in
    let v = c.loop-n.invariant in record {
      moves = moves_trans _ _ _ _ _ _ _ v.moves c.start_away.ensures.moves;
      counts = same_counts_trans _ _ _ _ v.counts c.start_away.ensures.counts;
      builds = subst (λ (k : ℕ). Builds W c.start_away.new.pool c.start_away.new.d.seat k c.start_away.new.d.tables.root c.start_away.new.d.own c.args.frames.now.items) (sym c.start_away.ensures.id)
          (builds_after W c.loop-n.pool c.loop-n.d.seat c.start_away.new.pool c.start_away.new.d.seat c.loop-n.d.id c.loop-n.d.tables.root c.start_away.new.d.tables.root c.loop-n.d.own c.start_away.new.d.own c.args.frames.now.items
          v.builds c.start_away.ensures.moves c.in_ok-start_away.ensures.made c.start_away.ensures.holds);
      starts = c.in_ok-start_away.ensures.starts;
      leaves = λ j lt. c.start_away.ensures.leaves j lt ∙ v.leaves j lt;
      count = c.start_away.ensures.count ∙ v.count;
      spare = c.start_away.ensures.spare ∙ v.spare;
      id = c.start_away.ensures.id ∙ v.id;
      hand = c.start_away.ensures.hand ∙ v.hand;
    }

pub returns-clause-starts : goal.returns-clause-starts
returns-clause-starts g c =
    let e : c.loop-n.n ≡ 4 = omega arith in
    subst (λ (k : ℕ). StartsTo (g.P.FramePool.world.entries c.loop-n.pool c.loop-n.d.seat) c.loop-n.d.tables.root c.loop-n.d.own k k) e c.loop-n.invariant.starts

pub returns-in_err-start_away-clause-counts : goal.returns-in_err-start_away-clause-counts
returns-in_err-start_away-clause-counts g c = same_counts_trans _ _ _ _ c.loop-n.invariant.counts c.start_away.ensures.counts
