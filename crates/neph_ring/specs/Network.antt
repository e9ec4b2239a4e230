-- The network page: two queues of at most 16 packets.
use Rattle.std.specs.Prelude.{◌≡◌, ◌+◌, ◌-◌, ◌*◌, ◌%◌, ◌<◌, ◌≤◌, ◌++◌, ℕ, List, [], ◌∷◌, length, map, replicate}
use Rattle.std.specs.List.{range_with_len}
use Rattle.byteorder.specs.Endian.{little_bytes}
use Rattle.neph_base.specs.declared.packet.Packet.{Packet}
use Rattle.neph_ring.specs.declared.layout.TheConstants.{NET_TX, NET_TX_PROD, NET_TX_CONS, NET_RX, NET_RX_PROD, NET_RX_CONS, NET_SLOTS, NET_SLOT_BYTES, SLOT_FAMILY, SLOT_PORT, SLOT_LENGTH, SLOT_BODY, SLOT_BODY_BYTES}
use Rattle.neph_ring.specs.declared.network.NetPart.{NetPart}
use Rattle.neph_ring.specs.declared.network.NetPart.TheVariants.{Transmit, Receive}
use Rattle.neph_ring.specs.Bytes.{span, with_bytes, u16_at, u32_at, with_u32}
use Rattle.neph_ring.specs.Indexes.{count_between, index_after}

-- where the slots of a part stand
abbrev pub slots_at : NetPart → ℕ
slots_at Transmit = NET_TX
slots_at Receive = NET_RX

-- where the producer's index of a part stands
abbrev pub prod_at : NetPart → ℕ
prod_at Transmit = NET_TX_PROD
prod_at Receive = NET_RX_PROD

-- where the consumer's index of a part stands
abbrev pub cons_at : NetPart → ℕ
cons_at Transmit = NET_TX_CONS
cons_at Receive = NET_RX_CONS

-- the producer's index of a part
abbrev pub net_prod : NetPart → List ℕ → ℕ
net_prod part page = u32_at page (prod_at part)

-- the consumer's index of a part
abbrev pub net_cons : NetPart → List ℕ → ℕ
net_cons part page = u32_at page (cons_at part)

-- how many packets wait in a part
abbrev pub net_count : NetPart → List ℕ → ℕ
net_count part page = count_between (net_cons part page) (net_prod part page)

-- where the slot of an index stands
abbrev pub slot_place : NetPart → ℕ → ℕ
slot_place part i = slots_at part + NET_SLOT_BYTES * (i % NET_SLOTS)

-- the bytes of the slot of an index
abbrev pub slot_at : NetPart → List ℕ → ℕ → List ℕ
slot_at part page i = span page (slot_place part i) NET_SLOT_BYTES

-- the packet in a slot
unfoldable pub packet_in : List ℕ → Packet
packet_in slot = record {
  family = u16_at slot SLOT_FAMILY;
  port = u16_at slot SLOT_PORT;
  body = span slot SLOT_BODY (u16_at slot SLOT_LENGTH);
}

-- a slot has a packet: its family has one byte, and one to 64 bytes are carried
unfoldable pub IsSlot : List ℕ → Type 0
IsSlot slot =
    (u16_at slot SLOT_FAMILY < 256) × (0 < u16_at slot SLOT_LENGTH)
    × (u16_at slot SLOT_LENGTH ≤ SLOT_BODY_BYTES)

-- what a packet can carry
pub record IsPacket (p : Packet) : Type 0 where
  pub family : p.family < 256
  pub port : p.port < 65536
  pub some : 0 < length p.body
  pub most : length p.body ≤ SLOT_BODY_BYTES

-- the slot of the packet before which k others wait in a part
abbrev pub waiting_slot : NetPart → List ℕ → ℕ → List ℕ
waiting_slot part page k = slot_at part page (net_cons part page + k)

-- the packets that wait in a part, oldest first
unfoldable pub packets : NetPart → List ℕ → List Packet
packets part page =
    map (λ k. packet_in (waiting_slot part page k)) (range_with_len 0 (net_count part page))

-- a part has at most 16 packets, and each waiting slot has one
pub record IsPart (part : NetPart) (page : List ℕ) : Type 0 where
  pub count : net_count part page ≤ NET_SLOTS
  pub slots : (k : ℕ) → k < net_count part page → IsSlot (waiting_slot part page k)

-- both parts are queues of packets
pub record IsNetwork (page : List ℕ) : Type 0 where
  pub transmit : IsPart Transmit page
  pub receive : IsPart Receive page

-- the first eight bytes of a slot; the last two are unused
unfoldable pub head_of : ℕ → ℕ → ℕ → List ℕ
head_of family port len =
    little_bytes 2 family ++ (little_bytes 2 port ++ (little_bytes 2 len ++ little_bytes 2 0))

-- the bytes of a slot with a packet; those behind the packet's bytes are zero
unfoldable pub slot_of : Packet → List ℕ
slot_of p =
    head_of p.family p.port (length p.body)
    ++ (p.body ++ replicate (SLOT_BODY_BYTES - length p.body) 0)

-- the page with a packet behind those that wait in a part
abbrev pub with_packet : NetPart → List ℕ → Packet → List ℕ
with_packet part page p =
    let filled = with_bytes page (slot_place part (net_prod part page)) (slot_of p) in
    with_u32 filled (prod_at part) (index_after (net_prod part page) 1)

-- the page with the oldest packet of a part taken; its slot stays, and only the consumer's index
-- moves
abbrev pub without_first : NetPart → List ℕ → List ℕ
without_first part page = with_u32 page (cons_at part) (index_after (net_cons part page) 1)

-- the other part
abbrev pub other_part : NetPart → NetPart
other_part Transmit = Receive
other_part Receive = Transmit

-- a packet is put behind those that wait in a part, and the other part stays
pub record PutsPacket (part : NetPart) (old : List ℕ) (p : Packet) (new : List ℕ) : Type 0 where
  pub page : new ≡ with_packet part old p
  pub queue : packets part new ≡ packets part old ++ p ∷ []
  pub other : packets (other_part part) new ≡ packets (other_part part) old

-- the oldest packet of a part is taken, and the other part stays
pub record TakesPacket (part : NetPart) (old : List ℕ) (p : Packet) (new : List ℕ) : Type 0 where
  pub page : new ≡ without_first part old
  pub queue : packets part old ≡ p ∷ packets part new
  pub other : packets (other_part part) new ≡ packets (other_part part) old
