use Rattle.std.proofs.Common.{◌∙◌, ap, ℕ, length, refl, sym, subst}
use Rattle.neph_ptab.specs.Tables.{leaf_at, walk_at}
use Rattle.neph_memory.proofs.Leading.{named}
use Rattle.neph_memory.proofs.Places.{frame_small, some_small}
use Rattle.neph_memory.proofs.Building.{popped, took}
use Rattle.neph_memory.proofs.Keeping.{shared_wiped}
use Rattle.neph_local.proofs.Sprouting.{sprouts, may_adopt, sprout_once, sprout_bytes}
use Rattle.neph_local.specs.Forks.{Adopts}
use Rattle.neph_local.proofs.sprout.sprout_root.Goals as goal

pub new-requires-clause-seat : goal.new-requires-clause-seat
new-requires-clause-seat g c = (c.requires.forks.fits, named _ _ c.requires.forks.names)

pub new-requires-clause-root : goal.new-requires-clause-root
new-requires-clause-root g c =
    let ef = g.P.FramePool.world.entries c.args.pool.now c.args.k.now.seat in
    let k = c.requires.forks.forking in
    k.aside c.unwrap-root.result (took ef ef _ _ c.unwrap-root.result (popped _ _ _ c.unwrap-root.result c.pop.ensures.items c.unwrap-root.ensures) k.once k.aside (λ x. refl))

pub returns-clause-adopts : goal.returns-clause-adopts
returns-clause-adopts g c =
    let W = g.P.FramePool.world in
    let es = W.entries c.args.pool.now c.args.d.now.seat in
    let ef = W.entries c.args.pool.now c.args.k.now.seat in
    let fs = W.entries c.new.new.pool c.new.new.seat in
    let ps = c.args.d.now.own.map.pages in
    let m = c.requires.stands.memory.made in
    subst (λ (r : ℕ). Adopts fs r c.args.own.now ps 1 (length ps) c.pop.new.self.items) (sym c.new.ensures.root)
    (sprouts es ef fs ps c.unwrap-root.result (length ps) c.args.k.now.frames.items c.pop.new.self.items c.args.own.now _ c.requires.forks.forking refl (popped _ _ _ c.unwrap-root.result c.pop.ensures.items c.unwrap-root.ensures)
    c.new.ensures.entries c.new.ensures.stands c.new.ensures.walks c.new.ensures.leaves m.few c.requires.map c.requires.marks (λ q x f h l. m.apart q x f h l) (λ p f h. frame_small ps p f h) (some_small ps 0 c.requires.stands.identity))

pub returns-clause-may : goal.returns-clause-may
returns-clause-may g c =
    let W = g.P.FramePool.world in
    let es = W.entries c.args.pool.now c.args.d.now.seat in
    let ef = W.entries c.args.pool.now c.args.k.now.seat in
    let fs = W.entries c.new.new.pool c.new.new.seat in
    let ps = c.args.d.now.own.map.pages in
    let m = c.requires.stands.memory.made in
    may_adopt es ef fs ps c.unwrap-root.result (length ps) c.args.k.now.frames.items c.pop.new.self.items c.args.own.now _ c.requires.forks.forking refl (popped _ _ _ c.unwrap-root.result c.pop.ensures.items c.unwrap-root.ensures)
    c.new.ensures.entries c.new.ensures.stands c.new.ensures.walks c.new.ensures.leaves m.few c.requires.map c.requires.marks (λ q x f h l. m.apart q x f h l) (λ p f h. frame_small ps p f h) (some_small ps 0 c.requires.stands.identity)

pub returns-clause-once : goal.returns-clause-once
returns-clause-once g c =
    let W = g.P.FramePool.world in
    let es = W.entries c.args.pool.now c.args.d.now.seat in
    let ef = W.entries c.args.pool.now c.args.k.now.seat in
    let fs = W.entries c.new.new.pool c.new.new.seat in
    let ps = c.args.d.now.own.map.pages in
    let m = c.requires.stands.memory.made in
    sprout_once es ef fs ps c.unwrap-root.result (length ps) c.args.k.now.frames.items c.pop.new.self.items c.args.own.now _ c.requires.forks.forking refl (popped _ _ _ c.unwrap-root.result c.pop.ensures.items c.unwrap-root.ensures)
    c.new.ensures.entries c.new.ensures.stands c.new.ensures.walks c.new.ensures.leaves m.few c.requires.map c.requires.marks (λ q x f h l. m.apart q x f h l) (λ p f h. frame_small ps p f h) (some_small ps 0 c.requires.stands.identity)

pub returns-clause-bytes : goal.returns-clause-bytes
returns-clause-bytes g c =
    let W = g.P.FramePool.world in
    let es = W.entries c.args.pool.now c.args.d.now.seat in
    let ef = W.entries c.args.pool.now c.args.k.now.seat in
    let fs = W.entries c.new.new.pool c.new.new.seat in
    let ps = c.args.d.now.own.map.pages in
    let m = c.requires.stands.memory.made in
    sprout_bytes es ef fs ps c.unwrap-root.result (length ps) c.args.k.now.frames.items c.pop.new.self.items c.args.own.now _ c.requires.forks.forking refl (popped _ _ _ c.unwrap-root.result c.pop.ensures.items c.unwrap-root.ensures)
    c.new.ensures.entries c.new.ensures.stands c.new.ensures.walks c.new.ensures.leaves m.few c.requires.map c.requires.marks (λ q x f h l. m.apart q x f h l) (λ p f h. frame_small ps p f h) (some_small ps 0 c.requires.stands.identity)

pub returns-clause-leaves : goal.returns-clause-leaves
returns-clause-leaves g c = λ i lt. ap (λ (r : ℕ). leaf_at (g.P.FramePool.world.entries c.new.new.pool c.new.new.seat) r i) c.new.ensures.root ∙ c.new.ensures.leaves i lt

pub returns-clause-walks : goal.returns-clause-walks
returns-clause-walks g c = λ u lt. ap (λ (r : ℕ). walk_at (g.P.FramePool.world.entries c.new.new.pool c.new.new.seat) r u) c.new.ensures.root ∙ c.new.ensures.walks u lt

pub returns-clause-shared : goal.returns-clause-shared
returns-clause-shared g c =
    let ef = g.P.FramePool.world.entries c.args.pool.now c.args.k.now.seat in
    let k = c.requires.forks.forking in
    shared_wiped ef (g.P.FramePool.world.entries c.new.new.pool c.new.new.seat) c.unwrap-root.result _
    (k.aside c.unwrap-root.result (took ef ef _ _ c.unwrap-root.result (popped _ _ _ c.unwrap-root.result c.pop.ensures.items c.unwrap-root.ensures) k.once k.aside (λ x. refl))) c.new.ensures.entries
