-- The packets of a part of the network page, for a part whose slots and indexes stand at any places.
use Rattle.std.proofs.Common.{◌≡◌, ◌≢◌, ◌+◌, ◌*◌, ◌%◌, ◌^◌, ◌<◌, ◌≤◌, ◌⊎◌, inl, inr, ℕ, suc, List, [], ◌∷◌, ◌++◌, length, map, refl, sym, ap, ◌∙◌, arith, ⊎_elim}
use Rattle.std.specs.List.{range_with_len}
use Rattle.std.proofs.lemmas.Bool.{cases_lt}
use Rattle.std.proofs.lemmas.List.FromFn.{length-map-range_with_len, get_or-map-range_with_len, map-range_with_len_more, fill_by_all}
use Rattle.byteorder.specs.Endian.{little_bytes}
use Rattle.neph_base.specs.declared.packet.Packet.{Packet}
use Rattle.neph_ring.specs.Bytes.{span, with_bytes, u32_at, with_u32}
use Rattle.neph_ring.specs.Indexes.{count_between, index_after}
use Rattle.neph_ring.specs.Network.{packet_in, IsSlot, IsPacket, slot_of}
use Rattle.neph_ring.proofs.Spans.{length-with_bytes, span_before, span_behind, span_within}
use Rattle.neph_ring.proofs.Fields.{u32_same, u32_put, span_whole}
use Rattle.neph_ring.proofs.Counts.{count_put, count_taken, same_16, other_16, next_16}
use Rattle.neph_ring.proofs.Slots.{length-slot, packet_back, slot_back}

nobody : Packet
nobody = record { family = 0; port = 0; body = [] }

-- the same packets, one by one
pub range_same : (f g : ℕ → Packet) (n : ℕ) → ((k : ℕ) → k < n → f k ≡ g k) → map f (range_with_len 0 n) ≡ map g (range_with_len 0 n)
range_same f g n h = fill_by_all g (map f (range_with_len 0 n)) n nobody (length-map-range_with_len f 0 n) (λ k lt. get_or-map-range_with_len f 0 n k k nobody lt (omega arith) ∙ h k lt)

range_next : (f g : ℕ → Packet) (n : ℕ) → ((k : ℕ) → k < n → f (1 + k) ≡ g k) → map f (range_with_len 1 n) ≡ map g (range_with_len 0 n)
range_next f g n h = fill_by_all g (map f (range_with_len 1 n)) n nobody (length-map-range_with_len f 1 n) (λ k lt. get_or-map-range_with_len f 1 n k (1 + k) nobody lt refl ∙ h k lt)

-- a part that has nothing of what changed
pub span_out : (xs : List ℕ) (at : ℕ) (ys : List ℕ) (j n : ℕ) → at + length ys ≤ length xs → j + n ≤ length xs → (j + n ≤ at) ⊎ (at + length ys ≤ j) → span (with_bytes xs at ys) j n ≡ span xs j n
span_out xs at ys j n h fit apart = ⊎_elim
    (λ (low : j + n ≤ at). span_before xs at ys j n h low)
    (λ (high : at + length ys ≤ j). span_behind xs at ys j n h high fit)
    apart

slots_apart : (a b : ℕ) → a ≢ b → (72 * a + 72 ≤ 72 * b) ⊎ (72 * b + 72 ≤ 72 * a)
slots_apart a b ne = ⊎_elim
    (λ (low : a < b). inl (omega arith))
    (λ (high : b ≤ a). inr (let s : b ≢ a = (λ e. ne (sym e)) in omega arith))
    (cases_lt a b)

-- the slot of an index, and the packets of a part
abbrev pub place : ℕ → ℕ → ℕ
place base i = base + 72 * (i % 16)

unfoldable pub queue : ℕ → ℕ → ℕ → List ℕ → List Packet
queue base pr co page = map (λ k. packet_in (span page (place base (u32_at page co + k)) 72)) (range_with_len 0 (count_between (u32_at page co) (u32_at page pr)))

abbrev pub AllSlots : ℕ → ℕ → ℕ → List ℕ → Type 0
AllSlots base pr co page = (k : ℕ) → k < count_between (u32_at page co) (u32_at page pr) → IsSlot (span page (place base (u32_at page co + k)) 72)

-- a page whose part is the same
module _ (page new : List ℕ) (base pr co : ℕ) (cons : u32_at new co ≡ u32_at page co) (prod : u32_at new pr ≡ u32_at page pr)
    (slots : (i : ℕ) → span new (place base i) 72 ≡ span page (place base i) 72) where
  pub same_count : count_between (u32_at new co) (u32_at new pr) ≡ count_between (u32_at page co) (u32_at page pr)
  same_count = ap (λ (c : ℕ). count_between c (u32_at new pr)) cons ∙ ap (count_between (u32_at page co)) prod

  pub same_queue : queue base pr co new ≡ queue base pr co page
  unfolding queue
  same_queue =
      ap (λ (c : ℕ). map (λ (k : ℕ). packet_in (span new (place base (c + k)) 72)) (range_with_len 0 (count_between (u32_at new co) (u32_at new pr)))) cons
      ∙ ap (λ (n : ℕ). map (λ (k : ℕ). packet_in (span new (place base (u32_at page co + k)) 72)) (range_with_len 0 n)) same_count
      ∙ range_same _ _ (count_between (u32_at page co) (u32_at page pr)) (λ k lt. ap packet_in (slots (u32_at page co + k)))

  pub same_slots : AllSlots base pr co page → AllSlots base pr co new
  same_slots h k lt = rw cons (rw (slots (u32_at page co + k)) (h k (let e = same_count in omega arith)))

-- a packet is put
module _ (page new : List ℕ) (base pr co : ℕ) (p : Packet) (full : length page ≡ 4096) (low : base + 1152 ≤ 2304) (pr1 : 2304 ≤ pr) (pr2 : pr + 4 ≤ 4096) (co1 : 2304 ≤ co) (co2 : co + 4 ≤ 4096)
    (apart : (co + 4 ≤ pr) ⊎ (pr + 4 ≤ co)) (lc : u32_at page co < 2 ^ 32) (lp : u32_at page pr < 2 ^ 32) (room : count_between (u32_at page co) (u32_at page pr) < 16) (is : IsPacket p)
    (put : new ≡ with_u32 (with_bytes page (place base (u32_at page pr)) (slot_of p)) pr (index_after (u32_at page pr) 1)) where
  at : ℕ
  at = place base (u32_at page pr)

  filled : List ℕ
  filled = with_bytes page at (slot_of p)

  slot_long : length (slot_of p) ≡ 72
  slot_long = length-slot p is.most

  at_low : at + 72 ≤ 2304
  unfolding at
  at_low = let m : u32_at page pr % 16 < 16 = omega arith in omega arith

  long : length filled ≡ 4096
  unfolding filled
  long = length-with_bytes page at (slot_of p) (let a = at_low in let l = slot_long in omega arith) ∙ full

  -- what is neither in the slot nor in the index stays
  stays : (j n : ℕ) → j + n ≤ 4096 → (j + n ≤ at) ⊎ (at + 72 ≤ j) → (j + n ≤ pr) ⊎ (pr + 4 ≤ j) → span new j n ≡ span page j n
  unfolding filled at
  stays j n fit off1 off2 =
      ap (λ (xs : List ℕ). span xs j n) put
      ∙ span_out filled pr (little_bytes 4 (index_after (u32_at page pr) 1)) j n (let l = long in omega arith) (let l = long in omega arith) off2
      ∙ span_out page at (slot_of p) j n (let a = at_low in let l = slot_long in omega arith) (omega arith) (rw slot_long off1)

  pub put_cons : u32_at new co ≡ u32_at page co
  put_cons = u32_same new page co co (stays co 4 co2 (inr (let a = at_low in omega arith)) apart)

  pub put_prod : u32_at new pr ≡ index_after (u32_at page pr) 1
  unfolding filled at
  put_prod = ap (λ (xs : List ℕ). u32_at xs pr) put ∙ u32_put filled pr (index_after (u32_at page pr) 1) (let l = long in omega arith) (omega arith)

  pub put_count : count_between (u32_at new co) (u32_at new pr) ≡ count_between (u32_at page co) (u32_at page pr) + 1
  put_count = ap (λ (c : ℕ). count_between c (u32_at new pr)) put_cons ∙ ap (count_between (u32_at page co)) put_prod ∙ count_put (u32_at page co) (u32_at page pr) 1 lc lp (omega arith)

  old_slot : (k : ℕ) → k < count_between (u32_at page co) (u32_at page pr) → span new (place base (u32_at page co + k)) 72 ≡ span page (place base (u32_at page co + k)) 72
  unfolding at
  old_slot k lt =
      let ne : (u32_at page co + k) % 16 ≢ u32_at page pr % 16 = other_16 (u32_at page co) (u32_at page pr) (count_between (u32_at page co) (u32_at page pr)) k lc lp refl room lt in
      let m : (u32_at page co + k) % 16 < 16 = omega arith in
      stays (place base (u32_at page co + k)) 72 (omega arith)
      (⊎_elim
      (λ (a : 72 * ((u32_at page co + k) % 16) + 72 ≤ 72 * (u32_at page pr % 16)). inl (omega arith))
      (λ (b : 72 * (u32_at page pr % 16) + 72 ≤ 72 * ((u32_at page co + k) % 16)). inr (omega arith))
      (slots_apart ((u32_at page co + k) % 16) (u32_at page pr % 16) ne))
      (inl (omega arith))

  new_slot : (k : ℕ) → k ≡ count_between (u32_at page co) (u32_at page pr) → span new (place base (u32_at page co + k)) 72 ≡ slot_of p
  unfolding at filled
  new_slot k e =
      let same : (u32_at page co + k) % 16 ≡ u32_at page pr % 16
      = same_16 (u32_at page co) (u32_at page pr) (count_between (u32_at page co) (u32_at page pr)) k 0 lc lp refl (omega arith) ∙ ap (λ (i : ℕ). i % 16) (let z : u32_at page pr + 0 ≡ u32_at page pr = omega arith in z) in
      let a = at_low in let l = slot_long in let f = long in
      ap (λ (m : ℕ). span new (base + 72 * m) 72) same ∙ ap (λ (xs : List ℕ). span xs at 72) put
      ∙ span_out filled pr (little_bytes 4 (index_after (u32_at page pr) 1)) at 72 (omega arith) (omega arith) (inl (omega arith))
      ∙ span_within page at (slot_of p) at 0 72 (omega arith) (omega arith) (omega arith) ∙ span_whole (slot_of p) 72 l

  pub put_queue : queue base pr co new ≡ queue base pr co page ++ p ∷ []
  unfolding queue
  put_queue =
      let n : ℕ = count_between (u32_at page co) (u32_at page pr) in
      let f : ℕ → Packet = λ k. packet_in (span new (place base (u32_at page co + k)) 72) in
      ap (λ (c : ℕ). map (λ (k : ℕ). packet_in (span new (place base (c + k)) 72)) (range_with_len 0 (count_between (u32_at new co) (u32_at new pr)))) put_cons
      ∙ ap (λ (m : ℕ). map f (range_with_len 0 m)) put_count
      ∙ map-range_with_len_more f 0 n n (omega arith)
      ∙ ap (λ (xs : List Packet). xs ++ f n ∷ []) (range_same f (λ k. packet_in (span page (place base (u32_at page co + k)) 72)) n (λ k lt. ap packet_in (old_slot k lt)))
      ∙ ap (λ (q : Packet). map (λ (k : ℕ). packet_in (span page (place base (u32_at page co + k)) 72)) (range_with_len 0 n) ++ q ∷ []) (ap packet_in (new_slot n refl) ∙ packet_back p is)

  pub put_slots : AllSlots base pr co page → AllSlots base pr co new
  put_slots h k lt = rw put_cons (⊎_elim
      (λ (old : k < count_between (u32_at page co) (u32_at page pr)). rw (old_slot k old) (h k old))
      (λ (last : count_between (u32_at page co) (u32_at page pr) ≤ k). rw (new_slot k (let e = put_count in omega arith)) (slot_back p is))
      (cases_lt k (count_between (u32_at page co) (u32_at page pr))))

  -- another part stays
  pub put_other : (b : ℕ) → b + 1152 ≤ 2304 → (b + 1152 ≤ base) ⊎ (base + 1152 ≤ b) → (i : ℕ) → span new (place b i) 72 ≡ span page (place b i) 72
  unfolding at
  put_other b lowb off i =
      let m : i % 16 < 16 = omega arith in let n : u32_at page pr % 16 < 16 = omega arith in
      stays (place b i) 72 (omega arith)
      (⊎_elim (λ (x : b + 1152 ≤ base). inl (omega arith)) (λ (y : base + 1152 ≤ b). inr (omega arith)) off)
      (inl (omega arith))

  pub put_index : (j : ℕ) → 2304 ≤ j → j + 4 ≤ 4096 → (j + 4 ≤ pr) ⊎ (pr + 4 ≤ j) → u32_at new j ≡ u32_at page j
  put_index j high fit off = u32_same new page j j (stays j 4 fit (inr (let a = at_low in omega arith)) off)

-- a packet is taken
module _ (page new : List ℕ) (base pr co : ℕ) (full : length page ≡ 4096) (low : base + 1152 ≤ 2304) (pr1 : 2304 ≤ pr) (pr2 : pr + 4 ≤ 4096) (co1 : 2304 ≤ co) (co2 : co + 4 ≤ 4096)
    (apart : (pr + 4 ≤ co) ⊎ (co + 4 ≤ pr)) (lc : u32_at page co < 2 ^ 32) (lp : u32_at page pr < 2 ^ 32) (some : 0 < count_between (u32_at page co) (u32_at page pr))
    (taken : new ≡ with_u32 page co (index_after (u32_at page co) 1)) where
  left : (j n : ℕ) → j + n ≤ 4096 → (j + n ≤ co) ⊎ (co + 4 ≤ j) → span new j n ≡ span page j n
  left j n fit off = ap (λ (xs : List ℕ). span xs j n) taken ∙ span_out page co (little_bytes 4 (index_after (u32_at page co) 1)) j n (omega arith) (omega arith) off

  pub taken_slot : (b i : ℕ) → b + 1152 ≤ 2304 → span new (place b i) 72 ≡ span page (place b i) 72
  taken_slot b i h = let m : i % 16 < 16 = omega arith in left (place b i) 72 (omega arith) (inl (omega arith))

  pub taken_index : (j : ℕ) → j + 4 ≤ 4096 → (j + 4 ≤ co) ⊎ (co + 4 ≤ j) → u32_at new j ≡ u32_at page j
  taken_index j fit off = u32_same new page j j (left j 4 fit off)

  pub taken_cons : u32_at new co ≡ index_after (u32_at page co) 1
  taken_cons = ap (λ (xs : List ℕ). u32_at xs co) taken ∙ u32_put page co (index_after (u32_at page co) 1) (omega arith) (omega arith)

  pub taken_count : count_between (u32_at page co) (u32_at page pr) ≡ suc (count_between (u32_at new co) (u32_at new pr))
  taken_count =
      let c : count_between (u32_at new co) (u32_at new pr) ≡ count_between (index_after (u32_at page co) 1) (u32_at page pr)
      = ap (λ (i : ℕ). count_between i (u32_at new pr)) taken_cons ∙ ap (count_between (index_after (u32_at page co) 1)) (taken_index pr pr2 apart) in
      let t = count_taken (u32_at page co) (u32_at page pr) lc lp some in omega arith

  slot_next : (k : ℕ) → span page (place base (u32_at page co + suc k)) 72 ≡ span new (place base (u32_at new co + k)) 72
  slot_next k = sym (taken_slot base (u32_at new co + k) low
      ∙ ap (λ (i : ℕ). span page (base + 72 * i) 72) (ap (λ (c : ℕ). (c + k) % 16) taken_cons ∙ next_16 (u32_at page co) k lc))

  pub taken_queue : (q : Packet) → q ≡ packet_in (span page (place base (u32_at page co)) 72) → queue base pr co page ≡ q ∷ queue base pr co new
  unfolding queue
  taken_queue q is =
      let n : ℕ = count_between (u32_at new co) (u32_at new pr) in
      let f : ℕ → Packet = λ k. packet_in (span page (place base (u32_at page co + k)) 72) in
      let g : ℕ → Packet = λ k. packet_in (span new (place base (u32_at new co + k)) 72) in
      ap (λ (m : ℕ). map f (range_with_len 0 m)) taken_count
      ∙ ap (λ (x : Packet). x ∷ map f (range_with_len 1 n)) (ap (λ (i : ℕ). packet_in (span page (place base i) 72)) (let z : u32_at page co + 0 ≡ u32_at page co = omega arith in z) ∙ sym is)
      ∙ ap (λ (xs : List Packet). q ∷ xs) (range_next f g n (λ k lt. ap (λ (i : ℕ). f i) (let z : 1 + k ≡ suc k = omega arith in z) ∙ ap packet_in (slot_next k)))

  pub taken_slots : AllSlots base pr co page → AllSlots base pr co new
  taken_slots h k lt = rw (← slot_next k) (h (suc k) (let e = taken_count in omega arith))
