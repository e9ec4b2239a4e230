use Rattle.std.proofs.Common.{arith}
use Rattle.neph_ring.proofs.Spans.{length_page}
use Rattle.neph_ring.proofs.Rings.{output_drained, small_prod, queue_drain, kept_drain, drained_count_is}
use Rattle.neph_ring.proofs.console.drain_out.Goals as goal

pub returns-clause-empty : goal.returns-clause-empty
returns-clause-empty g c =
    queue_drain _ _ (length_page _ (g.met.W.Words.full c.args.page.now))
    (small_prod _ _ _ c.read_u32-cons.ensures.words c.read_u32-prod.ensures.number c.read_u32-prod.type_inv)
    (output_drained _ _ _ _ _ _ c.read_u32-cons.ensures.words c.read_u32-prod.ensures.words c.read_ring.ensures.words c.read_u32-prod.ensures.number c.write_u32.ensures.bytes)

pub returns-clause-kept : goal.returns-clause-kept
returns-clause-kept g c =
    kept_drain _ _ (length_page _ (g.met.W.Words.full c.args.page.now))
    (small_prod _ _ _ c.read_u32-cons.ensures.words c.read_u32-prod.ensures.number c.read_u32-prod.type_inv)
    (output_drained _ _ _ _ _ _ c.read_u32-cons.ensures.words c.read_u32-prod.ensures.words c.read_ring.ensures.words c.read_u32-prod.ensures.number c.write_u32.ensures.bytes)

pub returns-clause-count : goal.returns-clause-count
returns-clause-count g c =
    drained_count_is _ _ _ _ c.read_u32-cons.ensures.number c.read_u32-cons.ensures.words c.read_u32-prod.ensures.number

pub returns-in_err-resize-clause-room : goal.returns-in_err-resize-clause-room
returns-in_err-resize-clause-room g c = λ room.
    let count = drained_count_is _ _ _ _ c.read_u32-cons.ensures.number c.read_u32-cons.ensures.words c.read_u32-prod.ensures.number in
    absurd (omega (arith, count, room, c.len-had.ensures, c.in_err-resize.ensures.full))
