use Rattle.neph_ring.proofs.Spans.{length_page}
use Rattle.neph_ring.proofs.Slots.{slot_parts, zeros_left}
use Rattle.neph_ring.proofs.network.put_slot.Goals as goal

pub returns-clause-slot : goal.returns-clause-slot
returns-clause-slot g c =
    slot_parts _ _ _ _ _ _ _ _ _ (length_page _ (g.met.W.Words.full c.args.page.now)) c.requires c.bytes-body.ensures.value c.bytes-body.ensures.high c.slot_head-head.ensures (zeros_left _ c.bytes-body.ensures.high)
    c.write_bytes.ensures.bytes c.write_bytes-2.ensures.bytes c.write_bytes-3.ensures.bytes
