use Rattle.std.proofs.Common.{◌+◌, ℕ, Bool, List, refl, sym, ap, subst, ◌∙◌, arith}
use Rattle.std.specs.declared.option.Option.{Option}
use Rattle.neph_pool.specs.declared.entry.Entry.{Entry}
use Rattle.neph_pool.specs.Names.{both_names}
use Rattle.neph_pool.specs.World.{Spares}
use Rattle.neph_pool.proofs.Calls.{stays_refl, stays_trans, spares_refl, same_counts_refl, same_counts_trans}
use Rattle.neph_ptab.specs.Tables.{leaf_at, IsTable}
use Rattle.neph_local.specs.Copies.{AreCopied}
use Rattle.neph_local.specs.Forks.{leaf_count_of}
use Rattle.neph_local.proofs.Stepping.{spares_trans}
use Rattle.neph_local.proofs.Tabling.{leaf_count_start, leaf_count_next, leaf_count_step, leaf_count_end, meets_end}
use Rattle.neph_local.proofs.copying.copy_leaves.Goals as goal

pub loop-i-init : goal.loop-i-init
loop-i-init g c =
    let W = g.P.FramePool.world in record {
      copied = c.requires.none;
      root = refl;
      kept = refl;
      left = leaf_count_start (W.entries c.args.pool.now c.args.from.now) c.args.source.now.root _ c.requires.enough;
      from = stays_refl W c.args.pool.now c.args.from.now c.requires.from.0;
      seat = stays_refl W c.args.pool.now c.args.seat.now c.requires.seat.0;
      others = spares_refl W _ c.args.pool.now;
      counts = same_counts_refl W c.args.pool.now;
    }

pub copy_table-requires-clause-free : goal.copy_table-requires-clause-free
copy_table-requires-clause-free g c = λ x h t.
    c.loop-i.invariant.copied.free x h (subst (λ (r : ℕ). IsTable (g.P.FramePool.world.entries c.loop-i.pool c.loop-i.seat) r x) c.loop-i.invariant.root t)

pub copy_table-requires-clause-room : goal.copy_table-requires-clause-room
copy_table-requires-clause-room g c =
    let W = g.P.FramePool.world in
    let v = c.loop-i.invariant in
    let s = leaf_count_step (W.entries c.args.pool.now c.args.from.now) c.args.source.now.root c.loop-i.i c.loop-i-test.true in
    let e = ap (λ (es : List (Option Entry)). leaf_count_of (leaf_at es c.args.source.now.root c.loop-i.i)) v.kept in
    omega (arith, s, e, v.left)

pub loop-i-preserved : goal.loop-i-preserved
loop-i-preserved g c =
    let W = g.P.FramePool.world in
    let v = c.loop-i.invariant in
    let es = W.entries c.args.pool.now c.args.from.now in
    let top = c.args.source.now.root in
    let cs = W.entries c.args.pool.now c.args.seat.now in
    let fs = W.entries c.loop-i.pool c.loop-i.seat in
    let gs = W.entries c.copy_table.new.pool c.copy_table.new.seat in
    let waits = c.args.frames.now.items in
    let s = leaf_count_next es top c.loop-i.i in
    let e = ap (λ (xs : List (Option Entry)). leaf_count_of (leaf_at xs top c.loop-i.i)) v.kept in
    let was : AreCopied (W.entries c.loop-i.pool c.loop-i.from) top cs fs c.loop-i.tables.root waits c.loop-i.frames.items c.loop-i.i
    = subst (λ (xs : List (Option Entry)). AreCopied xs top cs fs c.loop-i.tables.root waits c.loop-i.frames.items c.loop-i.i) (sym v.kept)
    (subst (λ (r : ℕ). AreCopied es top cs fs r waits c.loop-i.frames.items c.loop-i.i) (sym v.root) v.copied) in
    let now = c.copy_table.ensures.copied cs waits was in record {
      copied = subst (λ (r : ℕ). AreCopied es top cs gs r waits c.copy_table.new.frames.items (c.loop-i.i + 1)) v.root
          (subst (λ (xs : List (Option Entry)). AreCopied xs top cs gs c.loop-i.tables.root waits c.copy_table.new.frames.items (c.loop-i.i + 1)) v.kept now);
      root = c.copy_table.ensures.root ∙ v.root;
      kept = c.copy_table.ensures.kept ∙ v.kept;
      left = omega (arith, s, e, v.left, c.copy_table.ensures.left);
      from = stays_trans W _ _ _ _ _ v.from c.copy_table.ensures.from;
      seat = stays_trans W _ _ _ _ _ v.seat c.copy_table.ensures.seat;
      others = spares_trans W (both_names (W.names c.args.from.now) (W.names c.args.seat.now)) c.args.pool.now c.loop-i.pool c.copy_table.new.pool v.others
          (subst (λ (ns : ℕ → Bool). Spares W (both_names ns (W.names c.args.seat.now)) c.loop-i.pool c.copy_table.new.pool) v.from.names
          (subst (λ (ns : ℕ → Bool). Spares W (both_names (W.names c.loop-i.from) ns) c.loop-i.pool c.copy_table.new.pool) v.seat.names c.copy_table.ensures.others));
      counts = same_counts_trans W _ _ _ v.counts c.copy_table.ensures.counts;
    }

pub returns-clause-left : goal.returns-clause-left
returns-clause-left g c =
    leaf_count_end (g.P.FramePool.world.entries c.args.pool.now c.args.from.now) c.args.source.now.root c.loop-i.i _ (meets_end _ _ c.loop-i.auto.i-end c.loop-i-test.false) c.loop-i.invariant.left

pub returns-clause-copied : goal.returns-clause-copied
returns-clause-copied g c =
    let W = g.P.FramePool.world in
    subst (λ (k : ℕ). AreCopied (W.entries c.args.pool.now c.args.from.now) c.args.source.now.root (W.entries c.args.pool.now c.args.seat.now) (W.entries c.loop-i.pool c.loop-i.seat) c.args.tables.now.root c.args.frames.now.items c.loop-i.frames.items k)
    (meets_end _ _ c.loop-i.auto.i-end c.loop-i-test.false) c.loop-i.invariant.copied
