use Rattle.std.proofs.Common.{refl}
use Rattle.neph_ring.proofs.Spans.{length_page}
use Rattle.neph_ring.proofs.Rings.{output_put, output_fits, small_cons, small_prod, queue_put, kept_put}
use Rattle.neph_ring.proofs.console.put_out.Goals as goal

pub returns-clause-queue : goal.returns-clause-queue
returns-clause-queue g c =
    queue_put _ _ c.args.bytes.now (length_page _ (g.met.W.Words.full c.args.page.now))
    (small_cons _ _ c.read_u32-cons.ensures.number c.read_u32-cons.type_inv)
    (small_prod _ _ _ c.read_u32-cons.ensures.words c.read_u32-prod.ensures.number c.read_u32-prod.type_inv)
    (output_fits _ _ _ _ _ _ c.read_u32-cons.ensures.number c.read_u32-cons.ensures.words c.read_u32-prod.ensures.number c.bytes-from.ensures.value c.if-count-from-gt-XENCONS_OUT_SIZE.false)
    (output_put _ _ _ _ _ _ _ _ _ _ c.read_u32-cons.ensures.words c.read_u32-prod.ensures.words c.read_u32-prod.ensures.number c.bytes-from.ensures.value c.write_ring.ensures.bytes refl refl c.write_u32.ensures.bytes)

pub returns-clause-kept : goal.returns-clause-kept
returns-clause-kept g c =
    kept_put _ _ c.args.bytes.now (length_page _ (g.met.W.Words.full c.args.page.now))
    (small_cons _ _ c.read_u32-cons.ensures.number c.read_u32-cons.type_inv)
    (small_prod _ _ _ c.read_u32-cons.ensures.words c.read_u32-prod.ensures.number c.read_u32-prod.type_inv)
    (output_fits _ _ _ _ _ _ c.read_u32-cons.ensures.number c.read_u32-cons.ensures.words c.read_u32-prod.ensures.number c.bytes-from.ensures.value c.if-count-from-gt-XENCONS_OUT_SIZE.false)
    (output_put _ _ _ _ _ _ _ _ _ _ c.read_u32-cons.ensures.words c.read_u32-prod.ensures.words c.read_u32-prod.ensures.number c.bytes-from.ensures.value c.write_ring.ensures.bytes refl refl c.write_u32.ensures.bytes)
