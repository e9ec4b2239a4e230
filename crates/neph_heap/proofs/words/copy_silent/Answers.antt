use Rattle.std.proofs.Common.{◌≡◌, List, ℕ, replicate, ap, ◌∙◌}
use Rattle.std.specs.declared.option.Option.{Option}
use Rattle.neph_pool.specs.declared.entry.Entry.{Entry}
use Rattle.neph_pool.specs.Entries.{hold_at, is_here}
use Rattle.neph_pool.specs.Bytes.{bytes_at}
use Rattle.neph_model.specs.Memory.{page_with_bytes, child_network_page}
use Rattle.neph_pool.proofs.Calls.{moves_trans}
use Rattle.neph_pool.proofs.Entries.{hold_at-with_words}
use Rattle.neph_pool.proofs.Spans.{settled, settled_twice}
use Rattle.neph_heap.proofs.Spans.{copied_bytes}
use Rattle.neph_heap.proofs.words.copy_silent.Goals as goal

pub write_bytes-requires-clause-frame : goal.write_bytes-requires-clause-frame
write_bytes-requires-clause-frame g c =
    let W = g.P.FramePool.world in
    ap (λ (xs : List (Option Entry)). hold_at xs c.args.to) c.copy.ensures.entries ∙ hold_at-with_words (W.entries c.args.pool.now c.args.seat.now) c.args.to _ c.args.to ∙ c.requires.to

pub write_bytes-requires-2-clause-frame : goal.write_bytes-requires-2-clause-frame
write_bytes-requires-2-clause-frame g c =
    let W = g.P.FramePool.world in
    ap (λ (xs : List (Option Entry)). hold_at xs c.args.to) c.write_bytes.ensures.entries ∙ hold_at-with_words (W.entries c.copy.new.self c.copy.new.s) c.args.to _ c.args.to
    ∙ ap (λ (xs : List (Option Entry)). hold_at xs c.args.to) c.copy.ensures.entries ∙ hold_at-with_words (W.entries c.args.pool.now c.args.seat.now) c.args.to _ c.args.to ∙ c.requires.to

pub returns-clause-entries : goal.returns-clause-entries
returns-clause-entries g c =
    let W = g.P.FramePool.world in
    let es = W.entries c.args.pool.now c.args.seat.now in
    let e1 = W.entries c.copy.new.self c.copy.new.s in
    let e2 = W.entries c.write_bytes.new.pool c.write_bytes.new.seat in
    let e3 = W.entries c.write_bytes-2.new.pool c.write_bytes-2.new.seat in
    let two = settled_twice es e1 e2 c.args.to _ _ c.copy.ensures.entries c.write_bytes.ensures.entries in
    settled es e3 c.args.to _ (settled_twice es e2 e3 c.args.to _ _ two c.write_bytes-2.ensures.entries) (ap is_here c.requires.to)

pub returns-clause-bytes : goal.returns-clause-bytes
unfolding child_network_page
returns-clause-bytes g c =
    let W = g.P.FramePool.world in
    let es = W.entries c.args.pool.now c.args.seat.now in
    let e1 = W.entries c.copy.new.self c.copy.new.s in
    let first : bytes_at e1 c.args.to ≡ bytes_at es c.args.from = copied_bytes es e1 c.args.from c.args.to c.copy.ensures.entries (ap is_here c.requires.to) in
    c.write_bytes-2.ensures.bytes ∙ ap (λ (p : List ℕ). page_with_bytes p 2304 (replicate 8 0)) (c.write_bytes.ensures.bytes ∙ ap (λ (p : List ℕ). page_with_bytes p 0 (replicate 1152 0)) first)

pub returns-clause-moves : goal.returns-clause-moves
returns-clause-moves g c =
    let W = g.P.FramePool.world in
    moves_trans W _ _ _ _ _ _ (moves_trans W _ _ _ _ _ _ c.copy.ensures.moves c.write_bytes.ensures.moves) c.write_bytes-2.ensures.moves
