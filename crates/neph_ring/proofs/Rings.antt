-- The bytes of the console's ring.
use Rattle.std.proofs.Common.{◌≡◌, ◌≢◌, ◌+◌, ◌-◌, ◌%◌, ◌^◌, ◌<◌, ◌≤◌, min, ℕ, zero, suc, List, [], ◌∷◌, ◌++◌, length, take, drop, set, get_or, map, refl, sym, ap, ◌∙◌, arith, length-append, length-set, get_or-set_same, get_or-set_other, ⊎_elim}
use Rattle.std.specs.List.{range_with_len}
use Rattle.std.proofs.lemmas.Bool.{cases_lt}
use Rattle.std.proofs.lemmas.List.{get_or_append_left, get_or-append_right, length-take, length-drop, take-append-drop, drop_all, set_split}
use Rattle.std.proofs.lemmas.List.FromFn.{length-map-range_with_len, get_or-map-range_with_len}
use Rattle.byteorder.specs.Endian.{little_bytes}
use Rattle.neph_ring.specs.Bytes.{bytes_of_words, span, with_bytes, with_u32}
use Rattle.neph_ring.specs.Indexes.{count_between, index_after}
use Rattle.neph_ring.specs.Console.{out_place, out_cons, out_prod, out_count, ring_bytes, out_queue, with_ring, with_output, without_output, IsConsole}
use Rattle.neph_ring.proofs.Spans.{length-span, length_page, get_or-span, with_before, same_bytes, span_before, span_behind, with_bytes-append}
use Rattle.neph_ring.proofs.InWords.{with_none}
use Rattle.neph_ring.proofs.Fields.{u32_same, u32_put}
use Rattle.neph_ring.proofs.Counts.{count_put, count_none, same_2048, other_2048}

pub length-ring_bytes : (page : List ℕ) (i n : ℕ) → length (ring_bytes page i n) ≡ n
unfolding ring_bytes
length-ring_bytes page i n = length-map-range_with_len (λ k. get_or page (out_place (i + k)) 0) 0 n

pub get_or-ring_bytes : (page : List ℕ) (i n k : ℕ) → k < n → get_or (ring_bytes page i n) k 0 ≡ get_or page (out_place (i + k)) 0
unfolding ring_bytes
get_or-ring_bytes page i n k h = get_or-map-range_with_len (λ k. get_or page (out_place (i + k)) 0) 0 n k k 0 h (omega arith)

-- up to the ring's end, and on from its start
pub ring_parts : (page : List ℕ) (i n a : ℕ) → length page ≡ 4096 → n ≤ 2048 → a ≡ min n (2048 - i % 2048)
    → span page (1024 + i % 2048) a ++ span page 1024 (n - a) ≡ ring_bytes page i n
ring_parts page i n a full few e =
    let A : List ℕ = span page (1024 + i % 2048) a in
    let B : List ℕ = span page 1024 (n - a) in
    let small : i % 2048 < 2048 = omega arith in
    let la : length A ≡ a = length-span page (1024 + i % 2048) a (omega arith) in
    let lb : length B ≡ n - a = length-span page 1024 (n - a) (omega arith) in
    let all : length (A ++ B) ≡ n = length-append A B ∙ (omega arith) in
    same_bytes (A ++ B) (ring_bytes page i n) (all ∙ sym (length-ring_bytes page i n)) (λ k lt. ⊎_elim
    (λ (first : k < a). get_or_append_left A B 0 k (omega arith) ∙ get_or-span page (1024 + i % 2048) a k first
    ∙ ap (λ (j : ℕ). get_or page j 0) (let f : 1024 + i % 2048 + k ≡ 1024 + (i + k) % 2048 = omega arith in f)
    ∙ sym (get_or-ring_bytes page i n k (omega arith)))
    (λ (second : a ≤ k). get_or-append_right A B a k 0 la second ∙ get_or-span page 1024 (n - a) (k - a) (omega arith)
    ∙ ap (λ (j : ℕ). get_or page j 0) (let f : 1024 + (k - a) ≡ 1024 + (i + k) % 2048 = omega arith in f)
    ∙ sym (get_or-ring_bytes page i n k (omega arith)))
    (cases_lt k a))

pub length-with_ring : (page : List ℕ) (i : ℕ) (bs : List ℕ) → length (with_ring page i bs) ≡ length page
unfolding with_ring
length-with_ring page i [] = refl
length-with_ring page i (b ∷ bs) = length-with_ring (set page (out_place i) b) (i + 1) bs ∙ length-set page (out_place i) b

-- one byte
with_one : (page : List ℕ) (p b : ℕ) → p < length page → set page p b ≡ with_bytes page p (b ∷ [])
unfolding with_bytes
with_one page p b h = set_split page p b h ∙ ap (λ (k : ℕ). take p page ++ (b ∷ drop k page)) (let e : suc p ≡ p + 1 = omega arith in e)

-- bytes that do not pass the ring's end
pub ring_straight : (page : List ℕ) (i p : ℕ) (bs : List ℕ) → length page ≡ 4096 → p ≡ 1024 + i % 2048 → i % 2048 + length bs ≤ 2048 → with_ring page i bs ≡ with_bytes page p bs
unfolding with_ring
ring_straight page i p [] full e fit = with_none page p
ring_straight page i p (b ∷ []) full e fit = ap (λ (q : ℕ). set page q b) (sym e) ∙ with_one page p b (omega arith)
ring_straight page i p (b ∷ (d ∷ bs)) full e fit =
    let one : with_bytes page p (b ∷ []) ≡ set page (out_place i) b = sym (ap (λ (q : ℕ). set page q b) (sym e) ∙ with_one page p b (omega arith)) in
    ring_straight (set page (out_place i) b) (i + 1) (p + 1) (d ∷ bs) (length-set page (out_place i) b ∙ full) (omega arith) (omega arith)
    ∙ ap (λ (xs : List ℕ). with_bytes xs (p + 1) (d ∷ bs)) (sym one)
    ∙ with_bytes-append page p (b ∷ []) (d ∷ bs) (p + 1) (omega arith) (omega arith)

pub ring_both : (page : List ℕ) (i j : ℕ) (xs ys : List ℕ) → j ≡ i + length xs → with_ring page i (xs ++ ys) ≡ with_ring (with_ring page i xs) j ys
unfolding with_ring
ring_both page i j [] ys e = ap (λ (k : ℕ). with_ring page k ys) (let f : i ≡ j = omega arith in f)
ring_both page i j (x ∷ xs) ys e = ring_both (set page (out_place i) x) (i + 1) j xs ys (omega arith)

rest_none : (page : List ℕ) (i : ℕ) (bs : List ℕ) → bs ≡ [] → page ≡ with_ring page i bs
unfolding with_ring
rest_none page i bs e = sym (ap (with_ring page i) e)

-- the two writes
pub ring_write : (bs cs ds from : List ℕ) (i a : ℕ) → length bs ≡ 4096 → length from ≤ 2048 → a ≡ min (length from) (2048 - i % 2048)
    → cs ≡ with_bytes bs (1024 + i % 2048) (take a from) → ds ≡ with_bytes cs 1024 (drop a from) → ds ≡ with_ring bs i from
ring_write bs cs ds from i a full few e h r =
    let small : i % 2048 < 2048 = omega arith in
    let la : length (take a from) ≡ a = length-take a from ∙ (omega arith) in
    let lb : length (drop a from) ≡ length from - a = length-drop a from in
    let first : cs ≡ with_ring bs i (take a from) = h ∙ sym (ring_straight bs i (1024 + i % 2048) (take a from) full refl (omega arith)) in
    let long : length cs ≡ 4096 = ap (λ (xs : List ℕ). length xs) first ∙ length-with_ring bs i (take a from) ∙ full in
    let second : ds ≡ with_ring cs (i + a) (drop a from) = ⊎_elim
    (λ (none : length from - a < 1). let nil : drop a from ≡ [] = drop_all a from (omega arith) in
    r ∙ ap (with_bytes cs 1024) nil ∙ sym (with_none cs 1024) ∙ rest_none cs (i + a) (drop a from) nil)
    (λ (some : 1 ≤ length from - a). r ∙ sym (ring_straight cs (i + a) 1024 (drop a from) long (omega arith) (omega arith)))
    (cases_lt (length from - a) 1) in
    second ∙ ap (λ (xs : List ℕ). with_ring xs (i + a) (drop a from)) first ∙ sym (ring_both bs i (i + a) (take a from) (drop a from) (omega arith))
    ∙ ap (with_ring bs i) (take-append-drop a from)

-- the two reads
pub ring_read : (ws us xs ys : List ℕ) (i n a m k : ℕ) → length ws ≡ 512 → n ≤ 2048 → a ≡ min n (2048 - i % 2048) → us ≡ ws → m ≡ a → k ≡ n - a
    → xs ≡ span (bytes_of_words ws) (1024 + i % 2048) m → ys ≡ span (bytes_of_words us) 1024 k → xs ++ ys ≡ ring_bytes (bytes_of_words ws) i n
ring_read ws us xs ys i n a m k full few e w em ek hx hy =
    ap (λ (zs : List ℕ). zs ++ ys) (hx ∙ ap (span (bytes_of_words ws) (1024 + i % 2048)) em)
    ∙ ap (λ (zs : List ℕ). span (bytes_of_words ws) (1024 + i % 2048) a ++ zs) (hy ∙ ap (λ (vs : List ℕ). span (bytes_of_words vs) 1024 k) w ∙ ap (span (bytes_of_words ws) 1024) ek)
    ∙ ring_parts (bytes_of_words ws) i n a (length_page ws full) few e

-- a byte at none of the places stays
pub ring_other : (page : List ℕ) (i q : ℕ) (bs : List ℕ) → ((k : ℕ) → k < length bs → q ≢ out_place (i + k)) → get_or (with_ring page i bs) q 0 ≡ get_or page q 0
unfolding with_ring
ring_other page i q [] h = refl
ring_other page i q (b ∷ bs) h =
    ring_other (set page (out_place i) b) (i + 1) q bs (λ k lt e. h (suc k) (omega arith) (e ∙ ap out_place (let f : i + 1 + k ≡ i + suc k = omega arith in f)))
    ∙ get_or-set_other page (out_place i) q b 0 (λ e. h 0 (omega arith) (e ∙ ap out_place (let f : i ≡ i + 0 = omega arith in f)))

-- a byte at one of them
pub ring_at : (page : List ℕ) (i j : ℕ) (bs : List ℕ) → length page ≡ 4096 → length bs ≤ 2048 → j < length bs → get_or (with_ring page i bs) (out_place (i + j)) 0 ≡ get_or bs j 0
unfolding with_ring
ring_at page i j [] full few lt = absurd (omega arith)
ring_at page i zero (b ∷ bs) full few lt =
    ap (λ (q : ℕ). get_or (with_ring (set page (out_place i) b) (i + 1) bs) q 0) (ap out_place (let f : i + 0 ≡ i = omega arith in f))
    ∙ ring_other (set page (out_place i) b) (i + 1) (out_place i) bs (λ k less e. let l : length bs < 2048 = omega arith in absurd (omega arith))
    ∙ get_or-set_same page (out_place i) b 0 (omega arith)
ring_at page i (suc j) (b ∷ bs) full few lt =
    ap (λ (q : ℕ). get_or (with_ring (set page (out_place i) b) (i + 1) bs) q 0) (ap out_place (let f : i + suc j ≡ i + 1 + j = omega arith in f))
    ∙ ring_at (set page (out_place i) b) (i + 1) j bs (length-set page (out_place i) b ∙ full) (omega arith) (omega arith)

-- what waits after bytes were put
module _ (page new bytes : List ℕ) (full : length page ≡ 4096) (lc : out_cons page < 2 ^ 32) (lp : out_prod page < 2 ^ 32) (fit : out_count page + length bytes ≤ 2048)
    (put : new ≡ with_output page bytes) where
  ring : List ℕ
  ring = with_ring page (out_prod page) bytes

  long : length ring ≡ 4096
  unfolding ring
  long = length-with_ring page (out_prod page) bytes ∙ full

  -- bytes behind the ring stay
  behind : (q : ℕ) → 3072 ≤ q → get_or ring q 0 ≡ get_or page q 0
  unfolding ring
  behind q h = ring_other page (out_prod page) q bytes (λ k lt e. absurd (omega arith))

  same_cons : out_cons new ≡ out_cons page
  unfolding ring
  same_cons = ap (λ (xs : List ℕ). out_cons xs) put
      ∙ u32_same _ _ 3080 3080 (span_before ring 3084 (little_bytes 4 (index_after (out_prod page) (length bytes))) 3080 4 (omega (arith, long)) (omega arith)
      ∙ same_bytes (span ring 3080 4) (span page 3080 4) (length-span ring 3080 4 (omega (arith, long)) ∙ sym (length-span page 3080 4 (omega arith)))
      (λ k lt. let l : length (span ring 3080 4) ≡ 4 = length-span ring 3080 4 (omega (arith, long)) in
      get_or-span ring 3080 4 k (omega arith) ∙ behind (3080 + k) (omega arith) ∙ sym (get_or-span page 3080 4 k (omega arith))))

  new_prod : out_prod new ≡ index_after (out_prod page) (length bytes)
  unfolding ring
  new_prod = ap (λ (xs : List ℕ). out_prod xs) put ∙ u32_put ring 3084 (index_after (out_prod page) (length bytes)) (omega (arith, long)) (omega arith)

  new_count : out_count new ≡ out_count page + length bytes
  new_count = ap (λ (c : ℕ). count_between c (out_prod new)) same_cons ∙ ap (count_between (out_cons page)) new_prod
      ∙ count_put (out_cons page) (out_prod page) (length bytes) lc lp (omega arith)

  pub kept_put : IsConsole new
  kept_put = let e = new_count in omega arith

  -- a byte of the ring
  in_ring : (q : ℕ) → q < 3072 → get_or new q 0 ≡ get_or ring q 0
  unfolding ring
  in_ring q h = ap (λ (xs : List ℕ). get_or xs q 0) put ∙ with_before ring 3084 (little_bytes 4 (index_after (out_prod page) (length bytes))) q (omega (arith, long)) (omega arith)

  byte_at : (k : ℕ) → k < out_count page + length bytes → get_or new (out_place (out_cons page + k)) 0 ≡ get_or (out_queue page ++ bytes) k 0
  unfolding ring
  byte_at k lt = in_ring (out_place (out_cons page + k)) (omega arith) ∙ ⊎_elim
      (λ (old : k < out_count page).
      ring_other page (out_prod page) (out_place (out_cons page + k)) bytes
      (λ j lj e. other_2048 (out_cons page) (out_prod page) (out_count page) k j (length bytes) lc lp refl fit old lj (omega arith))
      ∙ sym (get_or-ring_bytes page (out_cons page) (out_count page) k old)
      ∙ sym (get_or_append_left (out_queue page) bytes 0 k (omega (arith, length-ring_bytes page (out_cons page) (out_count page)))))
      (λ (more : out_count page ≤ k).
      let j : ℕ = k - out_count page in
      let e : out_place (out_cons page + k) ≡ out_place (out_prod page + j) = ap (λ (m : ℕ). 1024 + m) (same_2048 (out_cons page) (out_prod page) (out_count page) k j lc lp refl (omega arith)) in
      ap (λ (q : ℕ). get_or (with_ring page (out_prod page) bytes) q 0) e ∙ ring_at page (out_prod page) j bytes full (omega arith) (omega arith)
      ∙ sym (get_or-append_right (out_queue page) bytes (out_count page) k 0 (length-ring_bytes page (out_cons page) (out_count page)) more))
      (cases_lt k (out_count page))

  pub queue_put : out_queue new ≡ out_queue page ++ bytes
  queue_put =
      let l1 : length (out_queue new) ≡ out_count page + length bytes = length-ring_bytes new (out_cons new) (out_count new) ∙ new_count in
      let l2 : length (out_queue page ++ bytes) ≡ out_count page + length bytes = length-append (out_queue page) bytes ∙ ap (λ (m : ℕ). m + length bytes) (length-ring_bytes page (out_cons page) (out_count page)) in
      same_bytes (out_queue new) (out_queue page ++ bytes) (l1 ∙ sym l2) (λ k lt.
      get_or-ring_bytes new (out_cons new) (out_count new) k (let e = new_count in omega arith)
      ∙ ap (λ (c : ℕ). get_or new (out_place (c + k)) 0) same_cons ∙ byte_at k (omega arith))

-- nothing waits after a drain
module _ (page new : List ℕ) (full : length page ≡ 4096) (lp : out_prod page < 2 ^ 32) (drained : new ≡ without_output page) where
  drained_count : out_count new ≡ 0
  drained_count =
      let c : out_cons new ≡ out_prod page = ap (λ (xs : List ℕ). out_cons xs) drained ∙ u32_put page 3080 (out_prod page) (omega arith) lp in
      let p : out_prod new ≡ out_prod page = ap (λ (xs : List ℕ). out_prod xs) drained ∙ u32_same _ _ 3084 3084 (span_behind page 3080 (little_bytes 4 (out_prod page)) 3084 4 (omega arith) (omega arith) (omega arith)) in
      ap (λ (m : ℕ). count_between m (out_prod new)) c ∙ ap (count_between (out_prod page)) p ∙ count_none (out_prod page) lp

  pub kept_drain : IsConsole new
  kept_drain = let e = drained_count in omega arith

  pub queue_drain : out_queue new ≡ []
  unfolding ring_bytes
  queue_drain = ap (λ (n : ℕ). map (λ (k : ℕ). get_or new (out_place (out_cons new + k)) 0) (range_with_len 0 n)) drained_count

-- the writes of a put
pub output_put : (ws us vs xs ys bytes from : List ℕ) (p q n : ℕ) → us ≡ ws → vs ≡ us → p ≡ out_prod (bytes_of_words us) → from ≡ bytes → bytes_of_words xs ≡ with_ring (bytes_of_words vs) p from
    → n ≡ length from → q ≡ index_after p n → bytes_of_words ys ≡ with_u32 (bytes_of_words xs) 3084 q → bytes_of_words ys ≡ with_output (bytes_of_words ws) bytes
output_put ws us vs xs ys bytes from p q n e f hp hf h hn hq r =
    let P : List ℕ = bytes_of_words ws in
    let is_p : p ≡ out_prod P = hp ∙ ap (λ (zs : List ℕ). out_prod (bytes_of_words zs)) e in
    let ring : bytes_of_words xs ≡ with_ring P (out_prod P) bytes
    = h ∙ ap (λ (zs : List ℕ). with_ring (bytes_of_words zs) p from) (f ∙ e) ∙ ap (λ (i : ℕ). with_ring P i from) is_p ∙ ap (with_ring P (out_prod P)) hf in
    let is_q : q ≡ index_after (out_prod P) (length bytes)
    = hq ∙ ap (λ (k : ℕ). index_after p k) (hn ∙ ap (λ (zs : List ℕ). length zs) hf) ∙ ap (λ (i : ℕ). index_after i (length bytes)) is_p in
    r ∙ ap (λ (zs : List ℕ). with_u32 zs 3084 q) ring ∙ ap (λ (k : ℕ). with_u32 (with_ring P (out_prod P) bytes) 3084 k) is_q

-- the write of a drain
pub output_drained : (ws us vs xs ys : List ℕ) (p : ℕ) → us ≡ ws → vs ≡ us → xs ≡ vs → p ≡ out_prod (bytes_of_words us) → bytes_of_words ys ≡ with_u32 (bytes_of_words xs) 3080 p → bytes_of_words ys ≡ without_output (bytes_of_words ws)
output_drained ws us vs xs ys p e f h hp r =
    r ∙ ap (λ (zs : List ℕ). with_u32 (bytes_of_words zs) 3080 p) (h ∙ f ∙ e) ∙ ap (λ (k : ℕ). with_u32 (bytes_of_words ws) 3080 k) (hp ∙ ap (λ (zs : List ℕ). out_prod (bytes_of_words zs)) e)

-- the indexes that were read are small, and the new bytes have room
pub small_cons : (ws : List ℕ) (c : ℕ) → c ≡ out_cons (bytes_of_words ws) → c < 2 ^ 32 → out_cons (bytes_of_words ws) < 2 ^ 32
small_cons ws c e h = rw (← e) h

pub small_prod : (ws us : List ℕ) (p : ℕ) → us ≡ ws → p ≡ out_prod (bytes_of_words us) → p < 2 ^ 32 → out_prod (bytes_of_words ws) < 2 ^ 32
small_prod ws us p f e h = rw (← f) (rw (← e) h)

pub output_fits : (ws us bytes from : List ℕ) (c p : ℕ) → c ≡ out_cons (bytes_of_words ws) → us ≡ ws → p ≡ out_prod (bytes_of_words us) → from ≡ bytes
    → count_between c p + length from ≤ 2048 → out_count (bytes_of_words ws) + length bytes ≤ 2048
output_fits ws us bytes from c p ec f ep eb h =
    let a : count_between c p ≡ out_count (bytes_of_words ws) = ap (λ (k : ℕ). count_between k p) ec ∙ ap (count_between (out_cons (bytes_of_words ws))) (ep ∙ ap (λ (zs : List ℕ). out_prod (bytes_of_words zs)) f) in
    let b : length from ≡ length bytes = ap (λ (xs : List ℕ). length xs) eb in
    omega arith

-- how many bytes a drain gives
pub drained_count_is : (ws us : List ℕ) (c p : ℕ) → c ≡ out_cons (bytes_of_words ws) → us ≡ ws → p ≡ out_prod (bytes_of_words us) → count_between c p ≡ length (out_queue (bytes_of_words ws))
drained_count_is ws us c p ec f ep =
    let P : List ℕ = bytes_of_words ws in
    ap (λ (k : ℕ). count_between k p) ec ∙ ap (count_between (out_cons P)) (ep ∙ ap (λ (zs : List ℕ). out_prod (bytes_of_words zs)) f) ∙ sym (length-ring_bytes P (out_cons P) (out_count P))
