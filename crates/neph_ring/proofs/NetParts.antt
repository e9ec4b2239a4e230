-- The two parts of the network page.
use Rattle.std.proofs.Common.{◌≡◌, ◌+◌, ◌^◌, ◌<◌, ◌≤◌, ◌≢◌, ◌⊎◌, inl, inr, ℕ, List, [], ◌∷◌, ◌++◌, length, refl, sym, ap, ◌∙◌, arith}
use Rattle.neph_base.specs.declared.packet.Packet.{Packet}
use Rattle.neph_ring.specs.declared.network.NetPart.{NetPart}
use Rattle.neph_ring.specs.declared.network.NetPart.TheVariants.{Transmit, Receive}
use Rattle.neph_ring.specs.Bytes.{bytes_of_words, span, with_bytes, u32_at, with_u32}
use Rattle.neph_ring.specs.Indexes.{count_between, index_after}
use Rattle.neph_ring.specs.Network.{slots_at, prod_at, cons_at, net_prod, net_cons, net_count, slot_place, slot_at, packet_in, IsPacket, packets, IsPart, IsNetwork, slot_of, with_packet, without_first, other_part, PutsPacket, TakesPacket}
use Rattle.neph_ring.proofs.Queues.{queue, place, same_count, same_queue, same_slots, put_count, put_queue, put_slots, put_other, put_index, taken_count, taken_queue, taken_slots, taken_slot, taken_index}

-- where a part stands, and how the other lies beside it
record Stands (base pr co b q d : ℕ) : Type 0 where
  low : base + 1152 ≤ 2304
  pr1 : 2304 ≤ pr
  pr2 : pr + 4 ≤ 4096
  co1 : 2304 ≤ co
  co2 : co + 4 ≤ 4096
  first : pr + 4 ≤ co
  other_low : b + 1152 ≤ 2304
  q1 : 2304 ≤ q
  q2 : q + 4 ≤ 4096
  d1 : 2304 ≤ d
  d2 : d + 4 ≤ 4096
  off : (b + 1152 ≤ base) ⊎ (base + 1152 ≤ b)
  pq : (q + 4 ≤ pr) ⊎ (pr + 4 ≤ q)
  pd : (d + 4 ≤ pr) ⊎ (pr + 4 ≤ d)
  cq : (q + 4 ≤ co) ⊎ (co + 4 ≤ q)
  cd : (d + 4 ≤ co) ⊎ (co + 4 ≤ d)

stands : (part : NetPart) → Stands (slots_at part) (prod_at part) (cons_at part) (slots_at (other_part part)) (prod_at (other_part part)) (cons_at (other_part part))
stands Transmit = record {
  low = omega arith;
  pr1 = omega arith;
  pr2 = omega arith;
  co1 = omega arith;
  co2 = omega arith;
  first = omega arith;
  other_low = omega arith;
  q1 = omega arith;
  q2 = omega arith;
  d1 = omega arith;
  d2 = omega arith;
  off = inr (omega arith);
  pq = inr (omega arith);
  pd = inr (omega arith);
  cq = inr (omega arith);
  cd = inr (omega arith);
}
stands Receive = record {
  low = omega arith;
  pr1 = omega arith;
  pr2 = omega arith;
  co1 = omega arith;
  co2 = omega arith;
  first = omega arith;
  other_low = omega arith;
  q1 = omega arith;
  q2 = omega arith;
  d1 = omega arith;
  d2 = omega arith;
  off = inl (omega arith);
  pq = inl (omega arith);
  pd = inl (omega arith);
  cq = inl (omega arith);
  cd = inl (omega arith);
}

pub the_part : (part : NetPart) (page : List ℕ) → IsNetwork page → IsPart part page
the_part Transmit page h = h.transmit
the_part Receive page h = h.receive

both : (part : NetPart) (page : List ℕ) → IsPart part page → IsPart (other_part part) page → IsNetwork page
both Transmit page a b = record { transmit = a; receive = b }
both Receive page a b = record { transmit = b; receive = a }

pub is_queue : (part : NetPart) (page : List ℕ) → packets part page ≡ queue (slots_at part) (prod_at part) (cons_at part) page
unfolding packets queue
is_queue part page = refl

-- a packet is put
module _ (part : NetPart) (page new : List ℕ) (p : Packet) (full : length page ≡ 4096) (net : IsNetwork page) (lc : net_cons part page < 2 ^ 32) (lp : net_prod part page < 2 ^ 32)
    (room : net_count part page < 16) (is : IsPacket p) (put : new ≡ with_packet part page p) where
  S : Stands (slots_at part) (prod_at part) (cons_at part) (slots_at (other_part part)) (prod_at (other_part part)) (cons_at (other_part part))
  S = stands part

  pub puts : PutsPacket part page p new
  puts = let s = S in record {
    page = put;
    queue = is_queue part new ∙ put_queue page new (slots_at part) (prod_at part) (cons_at part) p full s.low s.pr1 s.pr2 s.co1 s.co2 (inr s.first) lc lp room is put
        ∙ ap (λ (xs : List Packet). xs ++ p ∷ []) (sym (is_queue part page));
    other = is_queue (other_part part) new ∙ same_queue page new (slots_at (other_part part)) (prod_at (other_part part)) (cons_at (other_part part))
        (put_index page new (slots_at part) (prod_at part) (cons_at part) p full s.low s.pr1 s.pr2 s.co1 s.co2 (inr s.first) lc lp room is put (cons_at (other_part part)) s.d1 s.d2 s.pd)
        (put_index page new (slots_at part) (prod_at part) (cons_at part) p full s.low s.pr1 s.pr2 s.co1 s.co2 (inr s.first) lc lp room is put (prod_at (other_part part)) s.q1 s.q2 s.pq)
        (put_other page new (slots_at part) (prod_at part) (cons_at part) p full s.low s.pr1 s.pr2 s.co1 s.co2 (inr s.first) lc lp room is put (slots_at (other_part part)) s.other_low s.off)
        ∙ sym (is_queue (other_part part) page);
  }

  pub puts_kept : IsNetwork new
  puts_kept =
      let s = S in
      let mine = the_part part page net in
      let theirs = the_part (other_part part) page net in
      let dc = put_index page new (slots_at part) (prod_at part) (cons_at part) p full s.low s.pr1 s.pr2 s.co1 s.co2 (inr s.first) lc lp room is put (cons_at (other_part part)) s.d1 s.d2 s.pd in
      let dp = put_index page new (slots_at part) (prod_at part) (cons_at part) p full s.low s.pr1 s.pr2 s.co1 s.co2 (inr s.first) lc lp room is put (prod_at (other_part part)) s.q1 s.q2 s.pq in
      let ds = put_other page new (slots_at part) (prod_at part) (cons_at part) p full s.low s.pr1 s.pr2 s.co1 s.co2 (inr s.first) lc lp room is put (slots_at (other_part part)) s.other_low s.off in
      both part new
      (record {
        count = let e = put_count page new (slots_at part) (prod_at part) (cons_at part) p full s.low s.pr1 s.pr2 s.co1 s.co2 (inr s.first) lc lp room is put in omega arith;
        slots = put_slots page new (slots_at part) (prod_at part) (cons_at part) p full s.low s.pr1 s.pr2 s.co1 s.co2 (inr s.first) lc lp room is put mine.slots;
      })
      (record {
        count = let e = same_count page new (slots_at (other_part part)) (prod_at (other_part part)) (cons_at (other_part part)) dc dp ds in let m = theirs.count in omega arith;
        slots = same_slots page new (slots_at (other_part part)) (prod_at (other_part part)) (cons_at (other_part part)) dc dp ds theirs.slots;
      })

-- a packet is taken
module _ (part : NetPart) (page new : List ℕ) (full : length page ≡ 4096) (net : IsNetwork page) (lc : net_cons part page < 2 ^ 32) (lp : net_prod part page < 2 ^ 32)
    (some : 0 < net_count part page) (took : new ≡ without_first part page) where
  T : Stands (slots_at part) (prod_at part) (cons_at part) (slots_at (other_part part)) (prod_at (other_part part)) (cons_at (other_part part))
  T = stands part

  pub takes : (p : Packet) → p ≡ packet_in (slot_at part page (net_cons part page)) → TakesPacket part page p new
  takes p is = let s = T in record {
    page = took;
    queue = is_queue part page ∙ taken_queue page new (slots_at part) (prod_at part) (cons_at part) full s.low s.pr1 s.pr2 s.co1 s.co2 (inl s.first) lc lp some took p is
        ∙ ap (λ (xs : List Packet). p ∷ xs) (sym (is_queue part new));
    other = is_queue (other_part part) new ∙ same_queue page new (slots_at (other_part part)) (prod_at (other_part part)) (cons_at (other_part part))
        (taken_index page new (slots_at part) (prod_at part) (cons_at part) full s.low s.pr1 s.pr2 s.co1 s.co2 (inl s.first) lc lp some took (cons_at (other_part part)) s.d2 s.cd)
        (taken_index page new (slots_at part) (prod_at part) (cons_at part) full s.low s.pr1 s.pr2 s.co1 s.co2 (inl s.first) lc lp some took (prod_at (other_part part)) s.q2 s.cq)
        (λ i. taken_slot page new (slots_at part) (prod_at part) (cons_at part) full s.low s.pr1 s.pr2 s.co1 s.co2 (inl s.first) lc lp some took (slots_at (other_part part)) i s.other_low)
        ∙ sym (is_queue (other_part part) page);
  }

  pub takes_kept : IsNetwork new
  takes_kept =
      let s = T in
      let mine = the_part part page net in
      let theirs = the_part (other_part part) page net in
      let dc = taken_index page new (slots_at part) (prod_at part) (cons_at part) full s.low s.pr1 s.pr2 s.co1 s.co2 (inl s.first) lc lp some took (cons_at (other_part part)) s.d2 s.cd in
      let dp = taken_index page new (slots_at part) (prod_at part) (cons_at part) full s.low s.pr1 s.pr2 s.co1 s.co2 (inl s.first) lc lp some took (prod_at (other_part part)) s.q2 s.cq in
      let ds : (i : ℕ) → span new (place (slots_at (other_part part)) i) 72 ≡ span page (place (slots_at (other_part part)) i) 72
      = λ i. taken_slot page new (slots_at part) (prod_at part) (cons_at part) full s.low s.pr1 s.pr2 s.co1 s.co2 (inl s.first) lc lp some took (slots_at (other_part part)) i s.other_low in
      both part new
      (record {
        count = let e = taken_count page new (slots_at part) (prod_at part) (cons_at part) full s.low s.pr1 s.pr2 s.co1 s.co2 (inl s.first) lc lp some took in let m = mine.count in omega arith;
        slots = taken_slots page new (slots_at part) (prod_at part) (cons_at part) full s.low s.pr1 s.pr2 s.co1 s.co2 (inl s.first) lc lp some took mine.slots;
      })
      (record {
        count = let e = same_count page new (slots_at (other_part part)) (prod_at (other_part part)) (cons_at (other_part part)) dc dp ds in let m = theirs.count in omega arith;
        slots = same_slots page new (slots_at (other_part part)) (prod_at (other_part part)) (cons_at (other_part part)) dc dp ds theirs.slots;
      })

-- the writes of a put
pub packet_put : (part : NetPart) (ws us vs xs ys : List ℕ) (p : Packet) (i a q at : ℕ) → us ≡ ws → vs ≡ us → i ≡ net_prod part (bytes_of_words ws) → a ≡ slot_place part i
    → bytes_of_words xs ≡ with_bytes (bytes_of_words vs) a (slot_of p) → at ≡ prod_at part → q ≡ index_after i 1 → bytes_of_words ys ≡ with_u32 (bytes_of_words xs) at q
    → bytes_of_words ys ≡ with_packet part (bytes_of_words ws) p
packet_put part ws us vs xs ys p i a q at e f hi ha h hat hq r =
    let P : List ℕ = bytes_of_words ws in
    let slot : bytes_of_words xs ≡ with_bytes P (slot_place part (net_prod part P)) (slot_of p)
    = h ∙ ap (λ (zs : List ℕ). with_bytes (bytes_of_words zs) a (slot_of p)) (f ∙ e) ∙ ap (λ (k : ℕ). with_bytes P k (slot_of p)) (ha ∙ ap (slot_place part) hi) in
    r ∙ ap (λ (zs : List ℕ). with_u32 zs at q) slot ∙ ap (λ (k : ℕ). with_u32 (with_bytes P (slot_place part (net_prod part P)) (slot_of p)) k q) hat
    ∙ ap (λ (k : ℕ). with_u32 (with_bytes P (slot_place part (net_prod part P)) (slot_of p)) (prod_at part) k) (hq ∙ ap (λ (j : ℕ). index_after j 1) hi)

-- the write of a take
pub packet_taken : (part : NetPart) (ws us vs xs : List ℕ) (c q at : ℕ) → us ≡ ws → vs ≡ us → c ≡ net_cons part (bytes_of_words ws) → at ≡ cons_at part → q ≡ index_after c 1
    → bytes_of_words xs ≡ with_u32 (bytes_of_words vs) at q → bytes_of_words xs ≡ without_first part (bytes_of_words ws)
packet_taken part ws us vs xs c q at e f hc hat hq r =
    r ∙ ap (λ (zs : List ℕ). with_u32 (bytes_of_words zs) at q) (f ∙ e) ∙ ap (λ (k : ℕ). with_u32 (bytes_of_words ws) k q) hat
    ∙ ap (λ (k : ℕ). with_u32 (bytes_of_words ws) (cons_at part) k) (hq ∙ ap (λ (j : ℕ). index_after j 1) hc)

-- an index that was read
pub index_read : (ws us : List ℕ) (at place i : ℕ) → us ≡ ws → at ≡ place → i ≡ u32_at (bytes_of_words us) at → i ≡ u32_at (bytes_of_words ws) place
index_read ws us at place i e f h = h ∙ ap (λ (zs : List ℕ). u32_at (bytes_of_words zs) at) e ∙ ap (u32_at (bytes_of_words ws)) f

pub small_index : (i n : ℕ) → i ≡ n → i < 2 ^ 32 → n < 2 ^ 32
small_index i n e h = rw (← e) h

pub count_read : (c p d q : ℕ) → c ≡ d → p ≡ q → count_between c p ≡ count_between d q
count_read c p d q e f = ap (λ (k : ℕ). count_between k p) e ∙ ap (count_between d) f

pub count_some : (c p d q : ℕ) → c ≡ d → p ≡ q → c < 2 ^ 32 → p < 2 ^ 32 → p ≢ c → 0 < count_between d q
count_some c p d q e f hc hp ne = omega arith

-- the slot that was read
pub slot_read : (part : NetPart) (ws us slot : List ℕ) (c at n : ℕ) (p : Packet) → us ≡ ws → c ≡ net_cons part (bytes_of_words ws) → at ≡ slot_place part c → n ≡ 72
    → slot ≡ span (bytes_of_words us) at n → p ≡ packet_in slot → p ≡ packet_in (slot_at part (bytes_of_words ws) (net_cons part (bytes_of_words ws)))
slot_read part ws us slot c at n p e hc ha hn h r =
    r ∙ ap packet_in (h ∙ ap (λ (zs : List ℕ). span (bytes_of_words zs) at n) e ∙ ap (λ (k : ℕ). span (bytes_of_words ws) k n) (ha ∙ ap (slot_place part) hc) ∙ ap (span (bytes_of_words ws) (slot_place part (net_cons part (bytes_of_words ws)))) hn)
