use Rattle.std.proofs.Common.{◌≡◌, ◌/◌, ◌%◌, List, ℕ, true, length, refl, sym, ap, ◌∙◌, arith}
use Rattle.std.proofs.lemmas.Nat.{le_bytes_8}
use Rattle.std.specs.Int.{w64, to_le_bytes, from_le_bytes}
use Rattle.std.specs.declared.option.Option.{Option}
use Rattle.neph_pool.specs.declared.entry.Entry.{Entry}
use Rattle.neph_pool.specs.Bytes.{with_bytes}
use Rattle.neph_pool.specs.Entries.{with_word, word_at, IsShaped, hold_at, is_here}
use Rattle.neph_pool.proofs.Calls.{moves_trans}
use Rattle.neph_pool.proofs.Spans.{wrote, settled, all_over}
use Rattle.neph_pool.proofs.bytes.write_in_word.Goals as goal

pub returns-in-Some-clause-entries : goal.returns-in-Some-clause-entries
returns-in-Some-clause-entries g c = settled _ _ c.args.f _ c.write.ensures.entries (ap is_here c.requires.frame)

pub returns-in-Some-clause-bytes : goal.returns-in-Some-clause-bytes
returns-in-Some-clause-bytes g c =
    let W = g.P.FramePool.world in
    let es = W.entries c.args.pool.now c.args.seat.now in
    let at = c.args.at in
    let bs = c.args.bytes.now in
    let v = c.from_le_bytes.result in
    let shape : IsShaped (W.frames c.args.pool.now) es = g.met.P.FramePool.shaped _ _ c.requires.seat.0 in
    let here : is_here (hold_at es c.args.f) ≡ true = ap is_here c.requires.frame in
    let long : length bs ≡ 8 = c.in-Some.ensures.cases.long in
    let new : to_le_bytes w64 v ≡ bs = le_bytes_8 bs v long (λ i. omega (arith, c.type_inv.bytes i)) (c.from_le_bytes.ensures ∙ ap (from_le_bytes w64) c.in-Some.ensures.cases.same) in
    wrote es es _ c.args.f at v bs refl c.write.ensures.entries here (shape.words c.args.f here) c.requires.at c.requires.within
    (new ∙ sym (all_over (word_at es c.args.f (at / 8)) (at % 8) bs (let w = c.requires.within in omega (arith, long)) long))

pub returns-clause-entries : goal.returns-clause-entries
returns-clause-entries g c =
    settled _ _ c.args.f _ (c.write-2.ensures.entries ∙ ap (λ (xs : List (Option Entry)). with_word xs c.args.f (c.args.at / 8) c.with_lanes.result) c.read-old.ensures.entries) (ap is_here c.requires.frame)

pub returns-clause-bytes : goal.returns-clause-bytes
returns-clause-bytes g c =
    let W = g.P.FramePool.world in
    let es = W.entries c.args.pool.now c.args.seat.now in
    let at = c.args.at in
    let bs = c.args.bytes.now in
    let shape : IsShaped (W.frames c.args.pool.now) es = g.met.P.FramePool.shaped _ _ c.requires.seat.0 in
    let here : is_here (hold_at es c.args.f) ≡ true = ap is_here c.requires.frame in
    wrote es _ _ c.args.f at c.with_lanes.result bs c.read-old.ensures.entries c.write-2.ensures.entries here (shape.words c.args.f here) c.requires.at c.requires.within
    (c.with_lanes.ensures ∙ ap (λ (w : ℕ). with_bytes (to_le_bytes w64 w) (at % 8) bs) c.read-old.ensures.word)

pub returns-clause-moves : goal.returns-clause-moves
returns-clause-moves g c = moves_trans _ _ _ _ _ _ _ c.read-old.ensures.moves c.write-2.ensures.moves
