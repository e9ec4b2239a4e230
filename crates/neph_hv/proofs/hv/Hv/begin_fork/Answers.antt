use Rattle.std.proofs.Common.{◌≡◌, ℕ, Bool, true, sym, ap, ◌∙◌, eq-eqb, arith}
use Rattle.neph_heap.specs.Lists.{aside_of}
use Rattle.neph_memory.proofs.Standing.{stands_spared}
use Rattle.neph_local.proofs.Stepping.{unchanged_spared}
use Rattle.neph_hv.specs.Hv.{exposed_in, lent_leaves}
use Rattle.neph_hv.proofs.Frames.{filled_once, filled_sole, filled_only, open_enough}
use Rattle.neph_hv.proofs.Beginning.{begun_by, count_same}
use Rattle.neph_hv.proofs.hv.Hv.begin_fork.Goals as goal

pub put_aside-requires-clause-name : goal.put_aside-requires-clause-name
put_aside-requires-clause-name g c = ap (g.P.FramePool.world.names c.args.self.now.heap.seat) c.next_child-child.ensures.next ∙ c.requires.name

pub put_aside-requires-clause-none : goal.put_aside-requires-clause-none
put_aside-requires-clause-none g c = ap (λ (n : ℕ). aside_of n c.args.self.now.heap.stock) c.next_child-child.ensures.next ∙ c.requires.none

pub put_aside-requires-clause-free : goal.put_aside-requires-clause-free
put_aside-requires-clause-free g c =
    let W = g.P.FramePool.world in
    let enough = open_enough c.args.self.now.registry c.args.d.now.id _ _ c.requires.open in
    let v = c.count-kept.ensures.value (W.entries c.args.pool.now c.args.self.now.heap.seat) in
    omega (arith, enough, v)

pub fork_begin-requires-clause-stands : goal.fork_begin-requires-clause-stands
fork_begin-requires-clause-stands g c =
    let d = c.args.d.now in
    stands_spared g.P.FramePool.world (g.P.FramePool.world.names c.args.self.now.heap.seat) c.args.pool.now c.put_aside.new.pool d.seat d.id d.tables.root d.own c.requires.stands c.in_ok-made.ensures.others c.requires.apart

pub fork_begin-requires-clause-apart : goal.fork_begin-requires-clause-apart
fork_begin-requires-clause-apart g c =
    let W = g.P.FramePool.world in
    let named : W.names c.args.self.now.heap.seat c.next_child-child.result ≡ true = ap (W.names c.args.self.now.heap.seat) c.next_child-child.ensures.next ∙ c.requires.name in
    λ e. c.requires.apart c.next_child-child.result named (ap (λ (ns : ℕ → Bool). ns c.next_child-child.result) c.requires.stands.names ∙ eq-eqb c.next_child-child.result c.args.d.now.id (sym e))

pub fork_begin-requires-clause-once : goal.fork_begin-requires-clause-once
fork_begin-requires-clause-once g c = filled_once _ _ c.in_ok-made.ensures.made.has

pub fork_begin-requires-clause-sole : goal.fork_begin-requires-clause-sole
fork_begin-requires-clause-sole g c = filled_sole _ _ c.in_ok-made.ensures.made.has

pub fork_begin-requires-clause-only : goal.fork_begin-requires-clause-only
fork_begin-requires-clause-only g c = filled_only _ _ c.in_ok-made.ensures.made.has

pub fork_begin-requires-clause-enough : goal.fork_begin-requires-clause-enough
fork_begin-requires-clause-enough g c =
    let W = g.P.FramePool.world in
    let d = c.args.d.now in
    let same = count_same W c.args.pool.now d c.put_aside.new.pool d (unchanged_spared W (W.names c.args.self.now.heap.seat) c.args.pool.now c.put_aside.new.pool d c.requires.stands.fits c.in_ok-made.ensures.others c.requires.apart) in
    omega (arith, c.in_ok-made.ensures.count, c.requires.leaves, same)

pub returns-clause-stands : goal.returns-clause-stands
returns-clause-stands g c =
    let d = c.args.d.now in
    stands_spared g.P.FramePool.world (g.P.FramePool.world.names c.args.self.now.heap.seat) c.args.pool.now c.put_aside.new.pool d.seat d.id d.tables.root d.own c.requires.stands c.in_ok-made.ensures.others c.requires.apart

pub returns-clause-same : goal.returns-clause-same
returns-clause-same g c =
    let W = g.P.FramePool.world in
    unchanged_spared W (W.names c.args.self.now.heap.seat) c.args.pool.now c.put_aside.new.pool c.args.d.now c.requires.stands.fits c.in_ok-made.ensures.others c.requires.apart

pub returns-clause-begun : goal.returns-clause-begun
returns-clause-begun g c =
    let W = g.P.FramePool.world in
    begun_by W c.args.pool.now c.args.self.now c.args.d.now c.put_aside.new.pool _ c.fork_begin.result c.next_child-child.result c.args.leaves c.begin.result c.in_ok-made.made.1.items c.fork_begin.ensures.child (ap (λ v. v.items) c.fork_begin.ensures.frames)
    (c.begin.ensures.row (exposed_in W c.args.pool.now c.args.self.now) (lent_leaves c.args.leaves) _ c.requires.open) c.requires.leaves c.in_ok-made.ensures.pages
    c.begin.ensures.child c.next_child-child.ensures.next c.fork_begin.ensures.fork c.fork_begin.ensures.next
    c.in_ok-made.ensures.free (c.in_ok-made.ensures.kept ∙ c.count-kept.ensures.pages) c.in_ok-made.ensures.rest c.begin.ensures.lives c.begin.ensures.tables c.in_ok-made.ensures.names
