-- Packets in slots.
use Rattle.std.proofs.Common.{◌≡◌, ◌+◌, ◌-◌, ◌<◌, ◌≤◌, ℕ, List, ◌++◌, length, take, drop, replicate, refl, sym, ap, ◌∙◌, arith, length-append, append_assoc, ◌⊎◌}
use Rattle.std.proofs.lemmas.List.{length-replicate, take_all, drop-replicate, length-take, length-drop}
use Rattle.byteorder.specs.Endian.{little_bytes}
use Rattle.neph_base.specs.declared.packet.Packet.{Packet}
use Rattle.neph_ring.specs.Bytes.{span, with_bytes, u16_at}
use Rattle.neph_ring.specs.Network.{packet_in, IsSlot, IsPacket, head_of, slot_of}
use Rattle.neph_ring.proofs.Spans.{with_bytes-append}
use Rattle.neph_ring.proofs.Fields.{u16_from, span_front, span_middle}

pub length-head : (f p n : ℕ) → length (head_of f p n) ≡ 8
unfolding head_of
length-head f p n = refl

pub length-slot : (p : Packet) → length p.body ≤ 64 → length (slot_of p) ≡ 72
unfolding slot_of
length-slot p h =
    let Z : List ℕ = replicate (64 - length p.body) 0 in
    let z : length Z ≡ 64 - length p.body = length-replicate (64 - length p.body) 0 in
    let H : List ℕ = head_of p.family p.port (length p.body) in
    omega (arith, length-append H (p.body ++ Z), length-append p.body Z, length-head p.family p.port (length p.body), z)

-- the three writes of a slot
pub slot_parts : (bs cs ds es : List ℕ) (at : ℕ) (p : Packet) (body head zeros : List ℕ) → length bs ≡ 4096 → at + 72 ≤ 2304 → body ≡ p.body → length body ≤ 64
    → head ≡ head_of p.family p.port (length body) → zeros ≡ replicate (64 - length body) 0
    → cs ≡ with_bytes bs at head → ds ≡ with_bytes cs (at + 8) body → es ≡ with_bytes ds (at + 8 + length body) zeros → es ≡ with_bytes bs at (slot_of p)
unfolding slot_of
slot_parts bs cs ds es at p body head zeros full fit eb few eh ez a b c =
    let lh : length head ≡ 8 = ap (λ (xs : List ℕ). length xs) eh ∙ length-head p.family p.port (length body) in
    let lz : length zeros ≡ 64 - length body = ap (λ (xs : List ℕ). length xs) ez ∙ length-replicate (64 - length body) 0 in
    let lhb : length (head ++ body) ≡ 8 + length body = length-append head body ∙ (omega arith) in
    let two : ds ≡ with_bytes bs at (head ++ body) = b ∙ ap (λ (xs : List ℕ). with_bytes xs (at + 8) body) a ∙ with_bytes-append bs at head body (at + 8) (omega arith) (omega arith) in
    let three : es ≡ with_bytes bs at ((head ++ body) ++ zeros)
    = c ∙ ap (λ (xs : List ℕ). with_bytes xs (at + 8 + length body) zeros) two ∙ with_bytes-append bs at (head ++ body) zeros (at + 8 + length body) (omega arith) (omega arith) in
    three ∙ ap (with_bytes bs at) (append_assoc head body zeros ∙ ap (λ (xs : List ℕ). xs ++ (body ++ zeros)) eh ∙ ap (λ (xs : List ℕ). head_of p.family p.port (length body) ++ (body ++ xs)) ez
    ∙ ap (λ (xs : List ℕ). head_of p.family p.port (length xs) ++ (xs ++ replicate (64 - length xs) 0)) eb)

-- what is read from a slot
pub packet_read : (slot body : List ℕ) (f p n : ℕ) → f ≡ u16_at slot 0 → p ≡ u16_at slot 2 → n ≡ u16_at slot 4 → body ≡ take (8 + n - 8) (drop 8 slot) → record { family = f; port = p; body = body } ≡ packet_in slot
unfolding packet_in span
packet_read slot body f p n ef ep en eb =
    let same : body ≡ take (u16_at slot 4) (drop 8 slot) = eb ∙ ap (λ (k : ℕ). take k (drop 8 slot)) (let e : 8 + n - 8 ≡ n = omega arith in e) ∙ ap (λ (k : ℕ). take k (drop 8 slot)) en in
    cc

-- the unused bytes
pub zeros_left : (n : ℕ) → n ≤ 64 → take {A = ℕ} (64 - n) (drop n (replicate 64 0)) ≡ replicate (64 - n) 0
zeros_left n h =
    let rest : List ℕ = replicate (64 - n) 0 in
    let all : List ℕ = replicate 64 0 in
    let cut : drop n all ≡ rest = drop-replicate n 64 0 in
    ap (λ (xs : List ℕ). take (64 - n) xs) cut ∙ take_all (64 - n) rest (let l : length rest ≡ 64 - n = length-replicate (64 - n) 0 in omega arith)

-- how many bytes are carried
pub carried : (slot : List ℕ) (n : ℕ) → length slot ≡ 72 → n ≤ 64 → length (take (8 + n - 8) (drop 8 slot)) ≡ n
carried slot n full h = omega (arith, length-take (8 + n - 8) (drop 8 slot), length-drop 8 slot)

pub is_slot : (slot : List ℕ) (f n : ℕ) → f ≡ u16_at slot 0 → n ≡ u16_at slot 4 → f ≤ 255 → 0 < n → n ≤ 64 → IsSlot slot
unfolding IsSlot
is_slot slot f n ef en hf hn h = (omega arith, omega arith, omega arith)

pub not_slot : (slot : List ℕ) (f n : ℕ) → f ≡ u16_at slot 0 → n ≡ u16_at slot 4 → (255 < f) ⊎ ((64 < n) ⊎ (n < 1)) → IsSlot slot → ⊥
unfolding IsSlot
not_slot slot f n ef en bad h =
    let x : u16_at slot 0 < 256 = h.0 in let y : 0 < u16_at slot 4 = h.1 in let z : u16_at slot 4 ≤ 64 = h.2 in omega arith

abbrev as_packet : ℕ → ℕ → List ℕ → Packet
as_packet f q xs = record { family = f; port = q; body = xs }

-- the packet of a slot's bytes, and that they are those of a slot
module _ (p : Packet) (h : IsPacket p) where
  Z : List ℕ
  Z = replicate (64 - length p.body) 0

  n : ℕ
  n = length p.body

  read_family : u16_at (slot_of p) 0 ≡ p.family
  unfolding slot_of head_of
  read_family = u16_from (slot_of p) 0 p.family (span_front (little_bytes 2 p.family) _ 2 refl) (let f = h.family in omega arith)

  read_port : u16_at (slot_of p) 2 ≡ p.port
  unfolding slot_of head_of
  read_port = u16_from (slot_of p) 2 p.port (span_middle (little_bytes 2 p.family) (little_bytes 2 p.port) _ 2 2 refl refl) (let f = h.port in omega arith)

  read_length : u16_at (slot_of p) 4 ≡ length p.body
  unfolding slot_of head_of
  read_length = u16_from (slot_of p) 4 (length p.body) (span_middle (little_bytes 2 p.family ++ little_bytes 2 p.port) (little_bytes 2 (length p.body)) _ 4 2 refl refl) (let f = h.most in omega arith)

  read_body : span (slot_of p) 8 (length p.body) ≡ p.body
  unfolding slot_of head_of Z
  read_body = span_middle (head_of p.family p.port (length p.body)) p.body Z 8 (length p.body) refl refl

  pub packet_back : packet_in (slot_of p) ≡ p
  unfolding packet_in
  packet_back =
      let body : span (slot_of p) 8 (u16_at (slot_of p) 4) ≡ p.body = ap (span (slot_of p) 8) read_length ∙ read_body in
      ap (λ (f : ℕ). as_packet f (u16_at (slot_of p) 2) (span (slot_of p) 8 (u16_at (slot_of p) 4))) read_family
      ∙ ap (λ (q : ℕ). as_packet p.family q (span (slot_of p) 8 (u16_at (slot_of p) 4))) read_port
      ∙ ap (λ (xs : List ℕ). as_packet p.family p.port xs) body

  pub slot_back : IsSlot (slot_of p)
  slot_back = is_slot (slot_of p) p.family (length p.body) (sym read_family) (sym read_length) (let f = h.family in omega arith) h.some h.most
