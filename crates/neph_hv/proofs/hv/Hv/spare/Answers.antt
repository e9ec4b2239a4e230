use Rattle.std.proofs.Common.{◌∷◌, [], ℕ, Bool, List, refl, ap, subst, ◌∙◌}
use Rattle.neph_pool.specs.Names.{both_names}
use Rattle.neph_pool.specs.World.{Spares}
use Rattle.neph_rows.specs.Records.{shared_of}
use Rattle.neph_model.specs.Machine.{Exposed}
use Rattle.neph_pool.proofs.Calls.{spares_trans}
use Rattle.neph_memory.proofs.Standing.{stands_spared}
use Rattle.neph_heap.proofs.Counting.{times_one}
use Rattle.neph_heap.proofs.Heaps.{loose_sole}
use Rattle.neph_heap.proofs.Spare.{spare_handed, spare_shown}
use Rattle.neph_hv.proofs.Sparing.{apart_same, spares_left, keeps_pages, keeps_map, keeps_leaves}
use Rattle.neph_hv.proofs.hv.Hv.spare.Goals as goal

pub put_spare-requires-clause-stands : goal.put_spare-requires-clause-stands
put_spare-requires-clause-stands g c =
    let W = g.P.FramePool.world in
    let d = c.args.d.now in
    stands_spared W (W.names c.args.self.now.heap.seat) c.args.pool.now c.take.new.pool d.seat d.id d.tables.root d.own c.requires.stands c.in-Some.ensures.moves.others c.requires.apart

pub put_spare-requires-clause-from : goal.put_spare-requires-clause-from
put_spare-requires-clause-from g c = (c.in-Some.ensures.heap.fits, (0, c.in-Some.ensures.heap.first))

pub put_spare-requires-clause-apart : goal.put_spare-requires-clause-apart
put_spare-requires-clause-apart g c =
    let W = g.P.FramePool.world in
    apart_same (W.names c.take.new.self.seat) (W.names c.args.self.now.heap.seat) (W.names c.args.d.now.seat) c.in-Some.ensures.moves.names c.requires.apart

pub put_spare-requires-clause-frame : goal.put_spare-requires-clause-frame
put_spare-requires-clause-frame g c =
    loose_sole g.P.FramePool.world c.take.new.pool c.take.new.self.seat c.take.new.self.stock (c.in-Some.f ∷ []) c.in-Some.ensures.heap c.in-Some.f (times_one c.in-Some.f)

pub returns-clause-hv : goal.returns-clause-hv
returns-clause-hv g c =
    spare_handed g.P.FramePool.world c.take.new.pool c.put_spare.new.pool c.take.new.self.seat c.put_spare.new.from c.take.new.self.stock c.in-Some.f c.in-Some.ensures.heap c.put_spare.ensures.from c.put_spare.ensures.others.frames c.put_spare.ensures.left

pub returns-clause-shared : goal.returns-clause-shared
returns-clause-shared g c =
    ap (λ (pages : List Exposed). shared_of c.args.self.now.registry pages)
    (spare_shown g.P.FramePool.world c.take.new.pool c.put_spare.new.pool c.take.new.self.seat c.put_spare.new.from c.take.new.self.stock c.in-Some.f c.in-Some.ensures.heap c.put_spare.ensures.left
    ∙ c.in-Some.ensures.pages)

pub returns-clause-pages : goal.returns-clause-pages
returns-clause-pages g c = λ x.
    let W = g.P.FramePool.world in
    c.put_spare.ensures.bytes x ∙ keeps_pages W c.args.pool.now c.take.new.pool c.args.d.now (W.names c.args.self.now.heap.seat) c.requires.stands.fits c.in-Some.ensures.moves.others c.requires.apart x

pub returns-clause-mappings : goal.returns-clause-mappings
returns-clause-mappings g c = λ u lt.
    let W = g.P.FramePool.world in
    c.put_spare.ensures.mappings u lt ∙ keeps_map W c.args.pool.now c.take.new.pool c.args.d.now (W.names c.args.self.now.heap.seat) c.requires.stands.fits c.in-Some.ensures.moves.others c.requires.apart u lt

pub returns-clause-leaves : goal.returns-clause-leaves
returns-clause-leaves g c = λ i lt.
    let W = g.P.FramePool.world in
    c.put_spare.ensures.leaves i lt ∙ keeps_leaves W c.args.pool.now c.take.new.pool c.args.d.now (W.names c.args.self.now.heap.seat) c.requires.stands.fits c.in-Some.ensures.moves.others c.requires.apart i lt

pub returns-clause-others : goal.returns-clause-others
returns-clause-others g c =
    let W = g.P.FramePool.world in
    let a : ℕ → Bool = W.names c.args.self.now.heap.seat in
    let b : ℕ → Bool = W.names c.args.d.now.seat in
    let last : Spares W (both_names a b) c.take.new.pool c.put_spare.new.pool = subst (λ (ns : ℕ → Bool). Spares W (both_names ns b) c.take.new.pool c.put_spare.new.pool) c.in-Some.ensures.moves.names c.put_spare.ensures.others in
    spares_trans W (both_names a b) c.args.pool.now c.take.new.pool c.put_spare.new.pool (both_names a b) refl
    (spares_left W a b c.args.pool.now c.take.new.pool c.in-Some.ensures.moves.others) last
