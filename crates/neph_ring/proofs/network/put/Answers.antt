use Rattle.std.proofs.Common.{refl, arith}
use Rattle.neph_ring.proofs.Spans.{length_page}
use Rattle.neph_ring.proofs.NetParts.{puts, puts_kept, packet_put, index_read, small_index, count_read}
use Rattle.neph_ring.proofs.network.put.Goals as goal

pub returns-clause-put : goal.returns-clause-put
returns-clause-put g c =
    let ec = index_read _ _ _ _ _ refl c.cons.ensures.is c.read_u32-cons.ensures.number in
    let ep = index_read _ _ _ _ _ c.read_u32-cons.ensures.words c.prod.ensures.is c.read_u32-prod.ensures.number in
    puts c.args.part _ _ c.args.p.now (length_page _ (g.met.W.Words.full c.args.page.now)) c.requires (small_index _ _ ec c.read_u32-cons.type_inv) (small_index _ _ ep c.read_u32-prod.type_inv)
    (let e = count_read _ _ _ _ ec ep in omega (arith, c.if-prod-cons-ge-NET_SLOTS.false)) c.put_slot.ensures.packet
    (packet_put c.args.part _ _ _ _ _ c.args.p.now _ _ _ _ c.read_u32-cons.ensures.words c.read_u32-prod.ensures.words ep c.slot.ensures.is c.put_slot.ensures.slot c.prod-2.ensures.is refl c.write_u32.ensures.bytes)

pub returns-clause-kept : goal.returns-clause-kept
returns-clause-kept g c =
    let ec = index_read _ _ _ _ _ refl c.cons.ensures.is c.read_u32-cons.ensures.number in
    let ep = index_read _ _ _ _ _ c.read_u32-cons.ensures.words c.prod.ensures.is c.read_u32-prod.ensures.number in
    puts_kept c.args.part _ _ c.args.p.now (length_page _ (g.met.W.Words.full c.args.page.now)) c.requires (small_index _ _ ec c.read_u32-cons.type_inv) (small_index _ _ ep c.read_u32-prod.type_inv)
    (let e = count_read _ _ _ _ ec ep in omega (arith, c.if-prod-cons-ge-NET_SLOTS.false)) c.put_slot.ensures.packet
    (packet_put c.args.part _ _ _ _ _ c.args.p.now _ _ _ _ c.read_u32-cons.ensures.words c.read_u32-prod.ensures.words ep c.slot.ensures.is c.put_slot.ensures.slot c.prod-2.ensures.is refl c.write_u32.ensures.bytes)
