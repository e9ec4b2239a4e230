use Rattle.std.proofs.Common.{◌≡◌, ◌+◌, ◌-◌, ◌*◌, ◌/◌, ◌%◌, ◌<◌, ◌≤◌, List, ℕ, length, take, drop, ap, ◌∙◌, arith}
use Rattle.std.specs.Int.{w64, to_le_bytes}
use Rattle.std.specs.declared.option.Option.{Option}
use Rattle.neph_pool.specs.declared.entry.Entry.{Entry}
use Rattle.neph_pool.specs.Bytes.{bytes_at}
use Rattle.neph_pool.specs.Entries.{words_at, word_at, IsShaped, hold_at}
use Rattle.neph_pool.proofs.Calls.{moves_trans, same_counts_trans}
use Rattle.neph_pool.proofs.Entries.{here_held}
use Rattle.neph_pool.proofs.Spans.{word_bytes, read_more, read_part, length_mid}
use Rattle.neph_pool.proofs.bytes.read_bytes.Goals as goal

pub loop-i-preserved : goal.loop-i-preserved
loop-i-preserved g c =
    let W = g.P.FramePool.world in
    let es = W.entries c.args.pool.now c.args.seat.now in
    let page : List ℕ = bytes_at es c.args.f in
    let i = c.loop-i.invariant in
    let k = c.loop-i.i in
    let at = c.args.at in
    let buf = c.loop-i.bytes in
    let part = c.copy_from_slice.new.self in
    let shape : IsShaped (W.frames c.args.pool.now) es = g.met.P.FramePool.shaped _ _ c.requires.seat.0 in
    let long : length (words_at es c.args.f) ≡ 512 = shape.words c.args.f (here_held (hold_at es c.args.f) c.requires.frame) in
    let below : 8 * k < at % 8 + c.args.len = omega (arith, c.loop-i-test.true, c.div_ceil-i-end.ensures) in
    let room : 8 * k + 8 ≤ length buf = omega (arith, i.size, below, c.requires.len) in
    let eight : length part ≡ 8 = ap length (c.copy_from_slice.ensures.after ∙ c.to_le_bytes-word.ensures) in
    let word : part ≡ take 8 (drop (8 * (at / 8) + 8 * k) page) =
    c.copy_from_slice.ensures.after ∙ c.to_le_bytes-word.ensures
    ∙ ap (to_le_bytes w64) (c.read.ensures.word ∙ ap (λ (xs : List (Option Entry)). word_at xs c.args.f (at / 8 + k)) i.entries)
    ∙ word_bytes (words_at es c.args.f) (at / 8 + k) (8 * (at / 8) + 8 * k) (omega arith) (omega (arith, long, below, c.requires.fits)) in
    let next : 8 * (k + 1) ≡ 8 * k + 8 = omega arith in
    record {
      moves = moves_trans W _ _ _ _ _ _ i.moves c.read.ensures.moves;
      counts = same_counts_trans W _ _ _ i.counts c.read.ensures.counts;
      met = c.read.ensures.met ∙ i.met;
      entries = c.read.ensures.entries ∙ i.entries;
      size = length_mid (8 * k) (8 * k + 8 - 8 * k) buf part (omega (arith, room)) (omega (arith, eight)) ∙ i.size;
      bytes = rw next (read_more buf part page (8 * (at / 8)) (8 * k) 8 (8 * k + 8 - 8 * k) (omega (arith, room)) eight i.bytes word);
    }

pub returns-clause-bytes : goal.returns-clause-bytes
returns-clause-bytes g c =
    let es = g.P.FramePool.world.entries c.args.pool.now c.args.seat.now in
    let page : List ℕ = bytes_at es c.args.f in
    let at = c.args.at in
    let len = c.args.len in
    let count : at % 8 + len - at % 8 ≡ len = omega arith in
    let place : 8 * (at / 8) + at % 8 ≡ at = omega arith in
    let all : at % 8 + len ≤ 8 * c.loop-i.i = omega (arith, c.loop-i-test.false, c.div_ceil-i-end.ensures) in
    (rw c.unwrap.ensures at c.new.ensures.given) ∙ ap (λ (n : ℕ). take n (drop (at % 8) c.loop-i.bytes)) count
    ∙ read_part c.loop-i.bytes page (8 * (at / 8)) (at % 8) len (8 * c.loop-i.i) all c.loop-i.invariant.bytes
    ∙ ap (λ (n : ℕ). take len (drop n page)) place
