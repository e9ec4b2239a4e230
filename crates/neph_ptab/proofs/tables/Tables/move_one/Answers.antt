use Rattle.std.proofs.Common.{◌/◌, ◌%◌, ◌==◌, List, if◌then◌else◌, IsSome, sym, ap, subst, ◌∙◌}
use Rattle.std.specs.declared.option.Option.{Option}
use Rattle.neph_pool.specs.declared.entry.Entry.{Entry}
use Rattle.neph_pool.proofs.Calls.{moves_trans}
use Rattle.neph_ptab.specs.declared.walk.Walk.{Walk}
use Rattle.neph_ptab.specs.Moves.{moved_walk}
use Rattle.neph_ptab.specs.Tables.{leaf_at, walk_at, IsRetabled}
use Rattle.neph_ptab.proofs.Retabling.{local_leaf, walk_here}
use Rattle.neph_ptab.proofs.tables.Tables.move_one.Goals as goal

pub set-requires-clause-leaf : goal.set-requires-clause-leaf
set-requires-clause-leaf g c =
    let W = g.P.FramePool.world in
    let root = c.args.self.now.root in
    let at = c.args.v / 512 in
    subst (λ (xs : List (Option Entry)). IsSome (leaf_at xs root at)) (sym c.walk-walk.ensures.entries)
    (local_leaf (W.entries c.args.pool.now c.args.seat.now) (leaf_at (W.entries c.args.pool.now c.args.seat.now) root at) (c.args.v % 512) c.requires.local)

pub returns-clause-walks : goal.returns-clause-walks
returns-clause-walks g c = λ u lt.
    let W = g.P.FramePool.world in
    let es = W.entries c.args.pool.now c.args.seat.now in
    let root = c.args.self.now.root in
    c.set.ensures.walks u lt
    ∙ ap (λ (xs : List (Option Entry)). if u == c.args.v then c.moved.result else walk_at xs root u) c.walk-walk.ensures.entries
    ∙ ap (λ (w : Walk). if u == c.args.v then w else walk_at es root u) (c.moved.ensures.walk ∙ ap (moved_walk c.args.to c.args.alone) c.walk-walk.ensures.walk)
    ∙ walk_here es root c.args.to c.args.alone u c.args.v

pub returns-clause-tables : goal.returns-clause-tables
returns-clause-tables g c =
    let W = g.P.FramePool.world in
    subst (λ (xs : List (Option Entry)). IsRetabled xs (W.entries c.set.new.pool c.set.new.seat) c.args.self.now.root) c.walk-walk.ensures.entries c.set.ensures.tables

pub returns-clause-moves : goal.returns-clause-moves
returns-clause-moves g c = moves_trans _ _ _ _ _ _ _ c.walk-walk.ensures.moves c.set.ensures.moves
