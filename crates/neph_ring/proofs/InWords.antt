-- Bytes that lie within one word.
use Rattle.std.proofs.Common.{◌≡◌, ◌+◌, ◌*◌, ◌-◌, ◌/◌, ◌%◌, ◌<◌, ◌≤◌, ℕ, zero, suc, List, [], ◌++◌, length, take, drop, set, get_or, refl, sym, ap, ◌∙◌, arith, ⊎_elim}
use Rattle.std.specs.Int.{w64, to_le_bytes, from_le_bytes}
use Rattle.std.proofs.lemmas.Bool.{cases_lt}
use Rattle.std.proofs.lemmas.List.{drop-drop, drop-take, take-take, take-append-drop, length-take-le, length-append}
use Rattle.std.proofs.lemmas.Slice.{take-put_mid}
use Rattle.std.proofs.lemmas.Nat.{le_bytes_8}
use borrow.Rule.Slice.PartMut.{put_mid}
use Rattle.neph_ring.specs.Bytes.{bytes_of_words, span, with_bytes}
use Rattle.neph_ring.proofs.Spans.{length-bytes, length-span, with_bytes-append, word_span, word_set, span-span, with_bytes-inner, with_before, with_within, with_behind, length-with_bytes}

-- the bytes of a word are bytes
byte_small : (n i : ℕ) → get_or (to_le_bytes w64 n) i 0 < 256
byte_small n zero = omega arith
byte_small n (suc zero) = omega arith
byte_small n (suc (suc zero)) = omega arith
byte_small n (suc (suc (suc zero))) = omega arith
byte_small n (suc (suc (suc (suc zero)))) = omega arith
byte_small n (suc (suc (suc (suc (suc zero))))) = omega arith
byte_small n (suc (suc (suc (suc (suc (suc zero)))))) = omega arith
byte_small n (suc (suc (suc (suc (suc (suc (suc zero))))))) = omega arith
byte_small n (suc (suc (suc (suc (suc (suc (suc (suc i)))))))) = omega arith

small_with : (xs : List ℕ) (at : ℕ) (ys : List ℕ) → at ≤ length xs → ((i : ℕ) → get_or xs i 0 < 256) → ((i : ℕ) → get_or ys i 0 < 256) → (i : ℕ) → get_or (with_bytes xs at ys) i 0 < 256
small_with xs at ys fit hx hy i = ⊎_elim
    (λ (low : i < at). rw (with_before xs at ys i fit low) (hx i))
    (λ (high : at ≤ i). ⊎_elim
    (λ (mid : i < at + length ys). rw (with_within xs at ys i fit high mid) (hy (i - at)))
    (λ (past : at + length ys ≤ i). rw (with_behind xs at ys i fit past) (hx i))
    (cases_lt i (at + length ys)))
    (cases_lt i at)

parted : (xs : List ℕ) (at k n : ℕ) (ys : List ℕ) → k ≡ length ys → put_mid at k xs ys ≡ with_bytes xs at ys
unfolding with_bytes
parted xs at k n ys e = ap (λ (zs : List ℕ). take at xs ++ (ys ++ zs)) (drop-drop k at xs ∙ ap (λ (j : ℕ). drop (at + j) xs) e)

place_of_word : (at : ℕ) → 8 * (at / 8) + at % 8 ≡ at
place_of_word at = omega arith

-- what is read from a word
pub read_step : (ws : List ℕ) (at n w : ℕ) (word into : List ℕ) → length ws ≡ 512 → at < 4096 → at % 8 + n ≤ 8 → w ≡ get_or ws (at / 8) 0
    → word ≡ to_le_bytes w64 w → into ≡ take (at % 8 + n - at % 8) (drop (at % 8) word) → into ≡ span (bytes_of_words ws) at n
unfolding span
read_step ws at n w word into full lt within e h after =
    let long : length (bytes_of_words ws) ≡ 4096 = length-bytes ws ∙ (omega arith) in
    let count : at % 8 + n - at % 8 ≡ n = omega arith in
    let is : word ≡ span (bytes_of_words ws) (8 * (at / 8)) 8 = h ∙ ap (to_le_bytes w64) e ∙ sym (word_span ws (at / 8) (omega arith)) in
    after ∙ ap (λ (k : ℕ). take k (drop (at % 8) word)) count ∙ ap (λ (xs : List ℕ). take n (drop (at % 8) xs)) is
    ∙ span-span (bytes_of_words ws) (8 * (at / 8)) 8 (at % 8) n (omega arith) within
    ∙ ap (λ (k : ℕ). take n (drop k (bytes_of_words ws))) (place_of_word at)

-- what a word becomes, and with it the bytes
pub write_step : (ws us vs : List ℕ) (at w v : ℕ) (word copied from : List ℕ) → length ws ≡ 512 → at < 4096 → at % 8 + length from ≤ 8 → w ≡ get_or ws (at / 8) 0
    → word ≡ to_le_bytes w64 w → copied ≡ from → ((i : ℕ) → get_or from i 0 < 256) → v ≡ from_le_bytes w64 (put_mid (at % 8) (at % 8 + length from - at % 8) word copied)
    → us ≡ ws → vs ≡ set us (at / 8) v → bytes_of_words vs ≡ with_bytes (bytes_of_words ws) at from
write_step ws us vs at w v word copied from full lt within e h same small val old new =
    let long : length (bytes_of_words ws) ≡ 4096 = length-bytes ws ∙ (omega arith) in
    let count : at % 8 + length from - at % 8 ≡ length copied = let l = ap (λ (xs : List ℕ). length xs) same in omega arith in
    let is : word ≡ span (bytes_of_words ws) (8 * (at / 8)) 8 = h ∙ ap (to_le_bytes w64) e ∙ sym (word_span ws (at / 8) (omega arith)) in
    let eight : length word ≡ 8 = ap length h in
    let goes : put_mid (at % 8) (at % 8 + length from - at % 8) word copied ≡ with_bytes word (at % 8) from
    = parted word (at % 8) (at % 8 + length from - at % 8) 0 copied count ∙ ap (λ (xs : List ℕ). with_bytes word (at % 8) xs) same in
    let whole : length (with_bytes word (at % 8) from) ≡ 8 = length-with_bytes word (at % 8) from (omega arith) ∙ eight in
    let bytes : to_le_bytes w64 v ≡ with_bytes word (at % 8) from
    = le_bytes_8 (with_bytes word (at % 8) from) v whole (small_with word (at % 8) from (omega arith) (λ i. rw h (byte_small w i)) small) (val ∙ ap (from_le_bytes w64) goes) in
    ap bytes_of_words (new ∙ ap (λ (xs : List ℕ). set xs (at / 8) v) old) ∙ word_set ws (at / 8) v (omega arith)
    ∙ ap (with_bytes (bytes_of_words ws) (8 * (at / 8))) (bytes ∙ ap (λ (xs : List ℕ). with_bytes xs (at % 8) from) is)
    ∙ with_bytes-inner (bytes_of_words ws) (8 * (at / 8)) 8 (at % 8) from (omega arith) within
    ∙ ap (λ (k : ℕ). with_bytes (bytes_of_words ws) k from) (place_of_word at)

pub span_none : (xs : List ℕ) (at : ℕ) → [] ≡ span xs at 0
unfolding span
span_none xs at = refl

-- the first of a list and those behind them
take_both : (xs : List ℕ) (m n : ℕ) → take m xs ++ take n (drop m xs) ≡ take (m + n) xs
take_both xs m n =
    ap (λ (ys : List ℕ). ys ++ take n (drop m xs)) (sym (take-take m (m + n) xs (omega arith)))
    ∙ ap (λ (ys : List ℕ). take m (take (m + n) xs) ++ ys) (sym (drop-take m n xs))
    ∙ take-append-drop m (take (m + n) xs)

-- a part and the part behind it
pub span-append : (xs : List ℕ) (at m n : ℕ) → span xs at m ++ span xs (at + m) n ≡ span xs at (m + n)
unfolding span
span-append xs at m n =
    ap (λ (ys : List ℕ). take m (drop at xs) ++ take n ys) (sym (drop-drop m at xs)) ∙ take_both (drop at xs) m n

-- one more part of a read
pub read_more : (us ws : List ℕ) (into part : List ℕ) (at d n m k : ℕ) → d ≤ length into → length part ≡ m → m ≡ n → take d into ≡ span (bytes_of_words ws) at d → us ≡ ws
    → part ≡ span (bytes_of_words us) (at + d) m → take (d + n) (put_mid d k into part) ≡ span (bytes_of_words ws) at (d + n)
read_more us ws into part at d n m k fit l e h w r =
    take-put_mid d k into part (d + n) (omega arith) fit ∙ ap (λ (ys : List ℕ). ys ++ part) h ∙ ap (λ (ys : List ℕ). span (bytes_of_words ws) at d ++ ys)
    (r ∙ ap (λ (xs : List ℕ). span (bytes_of_words xs) (at + d) m) w ∙ ap (span (bytes_of_words ws) (at + d)) e)
    ∙ span-append (bytes_of_words ws) at d n

pub with_none : (xs : List ℕ) (at : ℕ) → xs ≡ with_bytes xs at []
unfolding with_bytes
with_none xs at = sym (ap (λ (k : ℕ). take at xs ++ drop k xs) (let e : at + 0 ≡ at = omega arith in e) ∙ take-append-drop at xs)

-- one more part of a write
pub write_more : (bs cs ds from : List ℕ) (at d n k : ℕ) → at + length from ≤ length bs → d + n ≤ length from → cs ≡ with_bytes bs at (take d from)
    → k ≡ n → ds ≡ with_bytes cs (at + d) (take k (drop d from)) → ds ≡ with_bytes bs at (take (d + n) from)
unfolding span
write_more bs cs ds from at d n k fit within h e r =
    let ld : length (take d from) ≡ d = length-take-le d from (omega arith) in
    let ln : length (take n (drop d from)) ≡ n = length-span from d n within in
    r ∙ ap (λ (xs : List ℕ). with_bytes xs (at + d) (take k (drop d from))) h ∙ ap (λ (j : ℕ). with_bytes (with_bytes bs at (take d from)) (at + d) (take j (drop d from))) e
    ∙ with_bytes-append bs at (take d from) (take n (drop d from)) (at + d) (omega arith) (omega arith)
    ∙ ap (with_bytes bs at) (take_both from d n)

pub length_mid : (a k : ℕ) (xs ys : List ℕ) → length (put_mid a k xs ys) ≡ length (take a xs) + (length ys + length (drop k (drop a xs)))
length_mid a k xs ys = length-append (take a xs) (ys ++ drop k (drop a xs)) ∙ ap (λ (n : ℕ). length (take a xs) + n) (length-append ys (drop k (drop a xs)))

-- a whole word that is written
pub whole_step : (ws vs : List ℕ) (at v : ℕ) (copied from : List ℕ) → length ws ≡ 512 → at < 4096 → at % 8 ≡ 0 → length from ≡ 8 → copied ≡ from → ((i : ℕ) → get_or from i 0 < 256)
    → v ≡ from_le_bytes w64 copied → vs ≡ set ws (at / 8) v → bytes_of_words vs ≡ with_bytes (bytes_of_words ws) at from
whole_step ws vs at v copied from full lt start eight same small val new =
    let bytes : to_le_bytes w64 v ≡ from = le_bytes_8 from v eight small (val ∙ ap (from_le_bytes w64) same) in
    ap bytes_of_words new ∙ word_set ws (at / 8) v (omega arith) ∙ ap (with_bytes (bytes_of_words ws) (8 * (at / 8))) bytes
    ∙ ap (λ (k : ℕ). with_bytes (bytes_of_words ws) k from) (let e : 8 * (at / 8) ≡ at = omega arith in e)
