use Rattle.std.proofs.Common.{refl, ◌∙◌}
use Rattle.neph_ring.proofs.Spans.{length_page}
use Rattle.neph_ring.proofs.NetParts.{takes, takes_kept, packet_taken, index_read, small_index, count_some, slot_read}
use Rattle.neph_ring.proofs.network.take.Goals as goal

pub returns-clause-took : goal.returns-clause-took
returns-clause-took g c =
    let same = c.read_u32-prod.ensures.words ∙ c.read_u32-cons.ensures.words in
    let ec = index_read _ _ _ _ _ refl c.cons.ensures.is c.read_u32-cons.ensures.number in
    let ep = index_read _ _ _ _ _ c.read_u32-cons.ensures.words c.prod.ensures.is c.read_u32-prod.ensures.number in
    takes c.args.part _ _ (length_page _ (g.met.W.Words.full c.args.page.now)) c.requires (small_index _ _ ec c.read_u32-cons.type_inv) (small_index _ _ ep c.read_u32-prod.type_inv)
    (count_some _ _ _ _ ec ep c.read_u32-cons.type_inv c.read_u32-prod.type_inv c.if-prod-cons.false)
    (packet_taken c.args.part _ _ _ _ _ _ _ same c.read_bytes.ensures.words ec c.cons-2.ensures.is refl c.write_u32.ensures.bytes)
    c.in_ok-p.p (slot_read c.args.part _ _ _ _ _ _ _ same ec c.slot.ensures.is refl c.read_bytes.ensures.bytes c.in_ok-p.ensures.packet)

pub returns-clause-kept : goal.returns-clause-kept
returns-clause-kept g c =
    let same = c.read_u32-prod.ensures.words ∙ c.read_u32-cons.ensures.words in
    let ec = index_read _ _ _ _ _ refl c.cons.ensures.is c.read_u32-cons.ensures.number in
    let ep = index_read _ _ _ _ _ c.read_u32-cons.ensures.words c.prod.ensures.is c.read_u32-prod.ensures.number in
    takes_kept c.args.part _ _ (length_page _ (g.met.W.Words.full c.args.page.now)) c.requires (small_index _ _ ec c.read_u32-cons.type_inv) (small_index _ _ ep c.read_u32-prod.type_inv)
    (count_some _ _ _ _ ec ep c.read_u32-cons.type_inv c.read_u32-prod.type_inv c.if-prod-cons.false)
    (packet_taken c.args.part _ _ _ _ _ _ _ same c.read_bytes.ensures.words ec c.cons-2.ensures.is refl c.write_u32.ensures.bytes)
