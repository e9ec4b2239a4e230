use Rattle.std.proofs.Common.{[], ℕ, Bool, List, refl, sym, ap, subst, ◌∙◌, eq-eqb}
use Rattle.neph_pool.specs.Names.{both_names}
use Rattle.neph_pool.specs.World.{Spares}
use Rattle.neph_pool.proofs.Calls.{spares_trans}
use Rattle.neph_heap.proofs.Heaps.{spares_then}
use Rattle.neph_model.specs.Births.{end_domain}
use Rattle.neph_model.specs.Machine.{Exposed}
use Rattle.neph_heap.specs.Lists.{Lists}
use Rattle.neph_heap.specs.Heap.{lists_left}
use Rattle.neph_rows.specs.Records.{shared_of}
use Rattle.neph_heap.specs.Holds.{Has}
use Rattle.neph_hv.proofs.Sparing.{apart_flip, heap_spared, shown_spared, spares_right}
use Rattle.neph_hv.proofs.Frames.{has_freed}
use Rattle.neph_hv.proofs.hv.Hv.end_domain.Goals as goal

pub take_in-requires-clause-heap : goal.take_in-requires-clause-heap
take_in-requires-clause-heap g c =
    let W = g.P.FramePool.world in
    heap_spared W (W.names c.args.d.seat) c.args.pool.now c.end-seat.new.pool c.args.self.now.heap.seat c.args.self.now.heap.stock [] c.requires.hv c.end-seat.ensures.moves.others
    (apart_flip (W.names c.args.self.now.heap.seat) (W.names c.args.d.seat) c.requires.apart)

pub take_in-requires-clause-seat : goal.take_in-requires-clause-seat
take_in-requires-clause-seat g c =
    (c.end-seat.ensures.moves.fits, (c.args.d.id, ap (λ (ns : ℕ → Bool). ns c.args.d.id) (c.end-seat.ensures.moves.names ∙ c.requires.stands.names) ∙ eq-eqb c.args.d.id c.args.d.id refl))

pub take_in-requires-clause-apart : goal.take_in-requires-clause-apart
take_in-requires-clause-apart g c = λ e x y. c.requires.apart e x (sym (ap (λ (ns : ℕ → Bool). ns e) c.end-seat.ensures.moves.names) ∙ y)

pub take_in-requires-clause-kept : goal.take_in-requires-clause-kept
take_in-requires-clause-kept g c =
    let W = g.P.FramePool.world in
    subst (λ (xs : List ℕ). Has (W.entries c.end-seat.new.pool c.end-seat.result.0) [] [] xs) (sym c.deref.ensures.value)
    (has_freed (W.entries c.end-seat.new.pool c.end-seat.result.0) c.end-seat.result.1.items c.end-seat.ensures.zero c.end-seat.ensures.freed)

pub returns-clause-others : goal.returns-clause-others
returns-clause-others g c =
    let W = g.P.FramePool.world in
    let a : ℕ → Bool = W.names c.args.self.now.heap.seat in
    let b : ℕ → Bool = W.names c.args.d.seat in
    let second : Spares W (both_names a b) c.end-seat.new.pool c.take_in.new.pool = subst (λ (ns : ℕ → Bool). Spares W (both_names a ns) c.end-seat.new.pool c.take_in.new.pool) c.end-seat.ensures.moves.names c.take_in.ensures.others in
    let both : Spares W (both_names a b) c.args.pool.now c.take_in.new.pool = spares_then W (both_names a b) c.args.pool.now c.end-seat.new.pool c.take_in.new.pool (spares_right W a b c.args.pool.now c.end-seat.new.pool c.end-seat.ensures.moves.others) second in
    spares_trans W (both_names a b) c.args.pool.now c.take_in.new.pool c.end_row.new.pool (W.names c.take_in.new.self.seat) (c.take_in.ensures.names ∙ ap (both_names a) c.end-seat.ensures.moves.names) both c.end_row.ensures.moves.others

pub returns-clause-row : goal.returns-clause-row
returns-clause-row g c =
    let W = g.P.FramePool.world in
    let s = c.args.self.now.heap.seat in
    let l = c.args.self.now.heap.stock in
    let same = c.take_in.ensures.pages ∙ shown_spared W (W.names c.args.d.seat) c.args.pool.now c.end-seat.new.pool s l [] c.requires.hv c.end-seat.ensures.moves.others (apart_flip (W.names s) (W.names c.args.d.seat) c.requires.apart) in
    ap (λ (ps : List Exposed). end_domain (shared_of c.args.self.now.registry ps) c.args.d.id) (sym same) ∙ c.end_row.ensures.row

pub returns-clause-stock : goal.returns-clause-stock
returns-clause-stock g c = (c.deref.result.now, c.end_row.ensures.stock ∙ ap (λ (l : Lists). lists_left l c.args.d.id) c.take_in.ensures.lists)

pub returns-clause-names : goal.returns-clause-names
returns-clause-names g c =
    let W = g.P.FramePool.world in
    c.end_row.ensures.moves.names ∙ c.take_in.ensures.names ∙ ap (both_names (W.names c.args.self.now.heap.seat)) c.end-seat.ensures.moves.names
