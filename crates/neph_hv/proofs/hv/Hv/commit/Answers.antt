use Rattle.std.proofs.Common.{◌+◌, ℕ, List, length, sym, ap, subst, ◌∙◌}
use Rattle.neph_pool.specs.Names.{both_names}
use Rattle.neph_local.specs.Forks.{Forks}
use Rattle.neph_hv.proofs.Sparing.{spares_right}
use Rattle.neph_hv.proofs.Beginning.{count_same}
use Rattle.neph_hv.proofs.Committing.{behind_hv, behind_same, behind_others, behind_stands, behind_parent, behind_child, behind_fork}
use Rattle.neph_hv.proofs.hv.Hv.commit.Goals as goal

pub commit_row-requires-clause-hv : goal.commit_row-requires-clause-hv
commit_row-requires-clause-hv g c = behind_hv g.P.FramePool.world c.args.pool.now c.fork_end.new.pool c.args.self.now c.args.d.now c.fork_end.new.d c.args.k.seat c.requires.hv c.fork_end.ensures.same c.fork_end.ensures.others c.requires.apart c.requires.child

pub fork_back-requires-clause-still : goal.fork_back-requires-clause-still
fork_back-requires-clause-still g c =
    behind_fork g.P.FramePool.world c.args.pool.now c.fork_end.new.pool c.args.self.now c.args.d.now c.fork_end.new.d c.args.k.seat c.requires.hv c.fork_end.ensures.same c.fork_end.ensures.others c.requires.apart c.requires.child c.commit_row.new.pool c.commit_row.ensures.moves.others c.in-Ok-fork_end.c c.args.k.child c.args.k.next c.in-Ok.frames.items (sym c.in-Ok-fork_end.ensures.id) c.in-Ok-fork_end.ensures.names
    (subst (λ (xs : List ℕ). Forks g.P.FramePool.world c.fork_end.new.pool c.fork_end.new.d.seat c.in-Ok-fork_end.c.seat c.args.k.child c.fork_end.new.d.own.map.pages c.args.k.next xs) (sym (c.in-Ok.ensures.items ∙ c.deref.ensures.value)) c.in-Ok-fork_end.ensures.still)

pub fork_back-requires-clause-enough : goal.fork_back-requires-clause-enough
fork_back-requires-clause-enough g c =
    let W = g.P.FramePool.world in
    ap (λ (xs : List ℕ). length xs) (c.in-Ok.ensures.items ∙ c.deref.ensures.value) ∙ c.requires.fork.enough
    ∙ ap (λ (n : ℕ). n + 2) (sym (count_same W c.args.pool.now c.args.d.now c.commit_row.new.pool c.fork_end.new.d (behind_same g.P.FramePool.world c.args.pool.now c.fork_end.new.pool c.args.self.now c.args.d.now c.fork_end.new.d c.args.k.seat c.requires.hv c.fork_end.ensures.same c.fork_end.ensures.others c.requires.apart c.requires.child c.commit_row.new.pool c.commit_row.ensures.moves.others)))

pub returns-in-Err-fork_end-clause-hv : goal.returns-in-Err-fork_end-clause-hv
returns-in-Err-fork_end-clause-hv g c = behind_hv g.P.FramePool.world c.args.pool.now c.fork_end.new.pool c.args.self.now c.args.d.now c.fork_end.new.d c.args.k.seat c.requires.hv c.fork_end.ensures.same c.fork_end.ensures.others c.requires.apart c.requires.child

pub returns-in-Err-fork_end-clause-others : goal.returns-in-Err-fork_end-clause-others
returns-in-Err-fork_end-clause-others g c =
    let W = g.P.FramePool.world in
    spares_right W (W.names c.args.self.now.heap.seat) (both_names (W.names c.args.d.now.seat) (W.names c.args.k.seat)) c.args.pool.now c.fork_end.new.pool c.fork_end.ensures.others

pub returns-in-Ok-commit_row-clause-stands : goal.returns-in-Ok-commit_row-clause-stands
returns-in-Ok-commit_row-clause-stands g c = behind_parent g.P.FramePool.world c.args.pool.now c.fork_end.new.pool c.args.self.now c.args.d.now c.fork_end.new.d c.args.k.seat c.requires.hv c.fork_end.ensures.same c.fork_end.ensures.others c.requires.apart c.requires.child c.commit_row.new.pool c.commit_row.ensures.moves.others c.fork_end.ensures.stands

pub returns-in-Ok-commit_row-clause-same : goal.returns-in-Ok-commit_row-clause-same
returns-in-Ok-commit_row-clause-same g c = behind_same g.P.FramePool.world c.args.pool.now c.fork_end.new.pool c.args.self.now c.args.d.now c.fork_end.new.d c.args.k.seat c.requires.hv c.fork_end.ensures.same c.fork_end.ensures.others c.requires.apart c.requires.child c.commit_row.new.pool c.commit_row.ensures.moves.others

pub returns-in-Ok-commit_row-clause-others : goal.returns-in-Ok-commit_row-clause-others
returns-in-Ok-commit_row-clause-others g c = behind_others g.P.FramePool.world c.args.pool.now c.fork_end.new.pool c.args.self.now c.args.d.now c.fork_end.new.d c.args.k.seat c.requires.hv c.fork_end.ensures.same c.fork_end.ensures.others c.requires.apart c.requires.child c.commit_row.new.pool c.commit_row.ensures.moves.others

pub returns-in-Ok-commit_row-clause-child : goal.returns-in-Ok-commit_row-clause-child
returns-in-Ok-commit_row-clause-child g c = behind_stands g.P.FramePool.world c.args.pool.now c.fork_end.new.pool c.args.self.now c.args.d.now c.fork_end.new.d c.args.k.seat c.requires.hv c.fork_end.ensures.same c.fork_end.ensures.others c.requires.apart c.requires.child c.commit_row.new.pool c.commit_row.ensures.moves.others c.in-Ok-fork_end.c c.in-Ok-fork_end.ensures.child c.in-Ok-fork_end.ensures.names

pub returns-in-Ok-commit_row-clause-born : goal.returns-in-Ok-commit_row-clause-born
returns-in-Ok-commit_row-clause-born g c = behind_child g.P.FramePool.world c.args.pool.now c.fork_end.new.pool c.args.self.now c.args.d.now c.fork_end.new.d c.args.k.seat c.requires.hv c.fork_end.ensures.same c.fork_end.ensures.others c.requires.apart c.requires.child c.commit_row.new.pool c.commit_row.ensures.moves.others c.in-Ok-fork_end.c c.in-Ok-fork_end.ensures.born c.in-Ok-fork_end.ensures.child c.in-Ok-fork_end.ensures.names

pub returns-in-Ok-commit_row-clause-still : goal.returns-in-Ok-commit_row-clause-still
returns-in-Ok-commit_row-clause-still g c = behind_fork g.P.FramePool.world c.args.pool.now c.fork_end.new.pool c.args.self.now c.args.d.now c.fork_end.new.d c.args.k.seat c.requires.hv c.fork_end.ensures.same c.fork_end.ensures.others c.requires.apart c.requires.child c.commit_row.new.pool c.commit_row.ensures.moves.others c.in-Ok-fork_end.c c.args.k.child c.args.k.next c.args.k.frames.items (sym c.in-Ok-fork_end.ensures.id) c.in-Ok-fork_end.ensures.names c.in-Ok-fork_end.ensures.still

pub returns-in-Err-commit_row-clause-stands : goal.returns-in-Err-commit_row-clause-stands
returns-in-Err-commit_row-clause-stands g c = behind_parent g.P.FramePool.world c.args.pool.now c.fork_end.new.pool c.args.self.now c.args.d.now c.fork_end.new.d c.args.k.seat c.requires.hv c.fork_end.ensures.same c.fork_end.ensures.others c.requires.apart c.requires.child c.commit_row.new.pool c.commit_row.ensures.moves.others c.fork_end.ensures.stands

pub returns-in-Err-commit_row-clause-same : goal.returns-in-Err-commit_row-clause-same
returns-in-Err-commit_row-clause-same g c = behind_same g.P.FramePool.world c.args.pool.now c.fork_end.new.pool c.args.self.now c.args.d.now c.fork_end.new.d c.args.k.seat c.requires.hv c.fork_end.ensures.same c.fork_end.ensures.others c.requires.apart c.requires.child c.commit_row.new.pool c.commit_row.ensures.moves.others

pub returns-in-Err-commit_row-clause-others : goal.returns-in-Err-commit_row-clause-others
returns-in-Err-commit_row-clause-others g c = behind_others g.P.FramePool.world c.args.pool.now c.fork_end.new.pool c.args.self.now c.args.d.now c.fork_end.new.d c.args.k.seat c.requires.hv c.fork_end.ensures.same c.fork_end.ensures.others c.requires.apart c.requires.child c.commit_row.new.pool c.commit_row.ensures.moves.others
