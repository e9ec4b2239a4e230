-- Pages of zeros, and the network page of a child.
use Rattle.std.proofs.Common.{◌≡◌, ◌+◌, ◌-◌, ◌*◌, ◌%◌, ◌<◌, ◌≤◌, ◌⊎◌, inl, inr, ℕ, zero, suc, List, [], ◌∷◌, length, take, drop, replicate, map, refl, sym, ap, ◌∙◌, arith}
use Rattle.std.specs.List.{range_with_len}
use Rattle.std.proofs.lemmas.List.{length-replicate, take-replicate, drop-replicate}
use Rattle.byteorder.specs.Endian.{little_number}
use Rattle.neph_ring.specs.declared.network.NetPart.{NetPart}
use Rattle.neph_ring.specs.declared.network.NetPart.TheVariants.{Transmit, Receive}
use Rattle.neph_ring.specs.Bytes.{bytes_of_words, span, with_bytes, u32_at}
use Rattle.neph_ring.specs.Indexes.{count_between}
use Rattle.neph_ring.specs.Console.{ring_bytes, out_count, out_cons, out_prod}
use Rattle.neph_ring.specs.Network.{IsNetwork, IsPart, packets, packet_in, slot_at, net_cons, net_prod, net_count}
use Rattle.neph_ring.specs.Pages.{IsQuiet, ZeroPageIsQuiet, network_page_of_child, ReceivesAsParent, ChildReceivesAsParent}
use Rattle.neph_ring.proofs.Spans.{length-with_bytes, span_within}
use Rattle.neph_ring.proofs.Fields.{u32_same}
use Rattle.neph_ring.proofs.Queues.{span_out, place, same_queue, same_slots, same_count}
use Rattle.neph_ring.proofs.NetParts.{is_queue}

abbrev zeros : ℕ → List ℕ
zeros n = replicate n 0

pub zero_bytes : (n m : ℕ) → m ≡ 8 * n → bytes_of_words (zeros n) ≡ zeros m
unfolding bytes_of_words
zero_bytes zero m e = ap zeros (let f : 0 ≡ m = omega arith in f)
zero_bytes (suc n) m e =
    ap (λ (xs : List ℕ). 0 ∷ 0 ∷ 0 ∷ 0 ∷ 0 ∷ 0 ∷ 0 ∷ 0 ∷ xs) (zero_bytes n (8 * n) refl) ∙ ap zeros (let f : suc (suc (suc (suc (suc (suc (suc (suc (8 * n)))))))) ≡ m = omega arith in f)

zero_span : (m at n : ℕ) → at + n ≤ m → span (zeros m) at n ≡ zeros n
unfolding span
zero_span m at n h =
    let cut : drop at (zeros m) ≡ zeros (m - at) = drop-replicate at m 0 in
    let first : take n (zeros (m - at)) ≡ zeros n = take-replicate n (m - at) 0 (omega arith) in
    ap (λ (xs : List ℕ). take n xs) cut ∙ first

zero_number : (xs : List ℕ) (at : ℕ) → span xs at 4 ≡ zeros 4 → u32_at xs at ≡ 0
unfolding u32_at
zero_number xs at h = ap (little_number 4) h

-- nothing waits between equal indexes
no_packets : (part : NetPart) (page : List ℕ) → net_count part page ≡ 0 → packets part page ≡ []
unfolding packets
no_packets part page e = ap (λ (n : ℕ). map (λ (k : ℕ). packet_in (slot_at part page (net_cons part page + k))) (range_with_len 0 n)) e

no_bytes : (page : List ℕ) (i n : ℕ) → n ≡ 0 → ring_bytes page i n ≡ []
unfolding ring_bytes
no_bytes page i n e = ap (ring_bytes page i) e

none_left : (part : NetPart) (page : List ℕ) → net_count part page ≡ 0 → IsPart part page
none_left part page e = record { count = omega arith; slots = λ k lt. absurd (omega arith) }

level : (c p : ℕ) → c ≡ 0 → p ≡ 0 → count_between c p ≡ 0
level c p ec ep = ap (λ (k : ℕ). count_between k p) ec ∙ ap (count_between 0) ep

pub quiet_zeros : ZeroPageIsQuiet
quiet_zeros =
    let page : List ℕ = zeros 4096 in
    let at : (j : ℕ) → j + 4 ≤ 4096 → u32_at page j ≡ 0 = λ j h. zero_number page j (zero_span 4096 j 4 h) in
    let out : out_count page ≡ 0 = level (out_cons page) (out_prod page) (at 3080 (omega arith)) (at 3084 (omega arith)) in
    let tx : net_count Transmit page ≡ 0 = level (net_cons Transmit page) (net_prod Transmit page) (at 2308 (omega arith)) (at 2304 (omega arith)) in
    let rx : net_count Receive page ≡ 0 = level (net_cons Receive page) (net_prod Receive page) (at 2316 (omega arith)) (at 2312 (omega arith)) in
    let state : u32_at page 0 ≡ 0 = at 0 (omega arith) in
    let size : u32_at page 4 ≡ 0 = at 4 (omega arith) in
    record {
      console = omega arith;
      output = no_bytes page (out_cons page) (out_count page) out;
      network = record { transmit = none_left Transmit page tx; receive = none_left Receive page rx };
      sent = no_packets Transmit page tx;
      received = no_packets Receive page rx;
      p9 = record { state = omega arith; size = omega arith };
      message = state;
    }

pub quiet_words : (ws : List ℕ) → ws ≡ replicate 512 0 → IsQuiet (bytes_of_words ws)
quiet_words ws e = let same : bytes_of_words ws ≡ zeros 4096 = ap bytes_of_words e ∙ zero_bytes 512 4096 refl in rw same quiet_zeros

-- the network page of a child
module _ (page : List ℕ) (full : length page ≡ 4096) (net : IsNetwork page) where
  Z : List ℕ
  Z = zeros 1152

  first : List ℕ
  first = with_bytes page 0 Z

  child : List ℕ
  child = network_page_of_child page

  lz : length Z ≡ 1152
  unfolding Z
  lz = length-replicate {A = ℕ} 1152 0

  l8 : length (zeros 8) ≡ 8
  l8 = length-replicate {A = ℕ} 8 0

  long : length first ≡ 4096
  unfolding first
  long = length-with_bytes page 0 Z (let l = lz in omega arith) ∙ full

  -- what is in neither stays
  stays : (j n : ℕ) → j + n ≤ 4096 → 1152 ≤ j → (j + n ≤ 2304) ⊎ (2312 ≤ j) → span child j n ≡ span page j n
  unfolding child first Z
  stays j n fit high off =
      let l = long in let e = l8 in let z = lz in
      span_out first 2304 (zeros 8) j n (omega arith) (omega arith) off ∙ span_out page 0 Z j n (omega arith) (omega arith) (inr (omega arith))

  tx_index : (j k : ℕ) → j ≡ 2304 + k → k + 4 ≤ 8 → u32_at child j ≡ 0
  unfolding child first Z
  tx_index j k e h =
      zero_number child j (let l = long in let m = l8 in span_within first 2304 (zeros 8) j k 4 e (omega arith) (omega arith) ∙ zero_span 8 k 4 h)

  pub as_parent : ReceivesAsParent page (network_page_of_child page)
  unfolding child
  as_parent =
      let cons : u32_at child 2316 ≡ u32_at page 2316 = u32_same child page 2316 2316 (stays 2316 4 (omega arith) (omega arith) (inr (omega arith))) in
      let prod : u32_at child 2312 ≡ u32_at page 2312 = u32_same child page 2312 2312 (stays 2312 4 (omega arith) (omega arith) (inr (omega arith))) in
      let slots : (i : ℕ) → span child (place 1152 i) 72 ≡ span page (place 1152 i) 72
      = λ i. let m : i % 16 < 16 = omega arith in stays (place 1152 i) 72 (omega arith) (omega arith) (inl (omega arith)) in
      let tx : net_count Transmit child ≡ 0 = level (net_cons Transmit child) (net_prod Transmit child) (tx_index 2308 4 (omega arith) (omega arith)) (tx_index 2304 0 (omega arith) (omega arith)) in
      let c = same_count page child 1152 2312 2316 cons prod slots in
      let r = net.receive in
      record {
        kept = record {
          transmit = none_left Transmit child tx;
          receive = record { count = let few = r.count in omega arith; slots = same_slots page child 1152 2312 2316 cons prod slots r.slots };
        };
        sent = no_packets Transmit child tx;
        received = is_queue Receive child ∙ same_queue page child 1152 2312 2316 cons prod slots ∙ sym (is_queue Receive page);
      }

pub children : ChildReceivesAsParent
children page full net = as_parent page full net
