-- Parts of a list of bytes, and the bytes of words.
use Rattle.std.proofs.Common.{◌≡◌, ◌+◌, ◌*◌, ◌-◌, ◌<◌, ◌≤◌, ℕ, zero, suc, List, [], ◌∷◌, ◌++◌, length, take, drop, set, get_or, refl, sym, ap, ◌∙◌, arith, length-append, length-drop, ⊎_elim}
use Rattle.std.specs.Int.{w64, to_le_bytes}
use Rattle.std.proofs.lemmas.Bool.{cases_lt}
use Rattle.std.proofs.lemmas.List.{get_or-append_right, get_or_append_left, length-take-le, length-take, get_or-drop, get_or-take, ext_get_or, take_at, drop_at, drop-drop, append_assoc}
use Rattle.neph_ring.specs.Bytes.{bytes_of_words, span, with_bytes}

pub length-span : (xs : List ℕ) (at n : ℕ) → at + n ≤ length xs → length (span xs at n) ≡ n
unfolding span
length-span xs at n h = length-take-le n (drop at xs) (omega (arith, length-drop at xs))

pub get_or-span : (xs : List ℕ) (at n k : ℕ) → k < n → get_or (span xs at n) k 0 ≡ get_or xs (at + k) 0
unfolding span
get_or-span xs at n k h = get_or-take n (drop at xs) k 0 h ∙ get_or-drop at xs k 0

pub length-with_bytes : (xs : List ℕ) (at : ℕ) (ys : List ℕ) → at + length ys ≤ length xs → length (with_bytes xs at ys) ≡ length xs
unfolding with_bytes
length-with_bytes xs at ys h = omega (arith, length-append (take at xs) (ys ++ drop (at + length ys) xs), length-append ys (drop (at + length ys) xs), length-take at xs, length-drop (at + length ys) xs)

-- a byte before those that changed, one of them, and one behind
pub with_before : (xs : List ℕ) (at : ℕ) (ys : List ℕ) (k : ℕ) → at ≤ length xs → k < at → get_or (with_bytes xs at ys) k 0 ≡ get_or xs k 0
unfolding with_bytes
with_before xs at ys k h lt =
    get_or_append_left (take at xs) (ys ++ drop (at + length ys) xs) 0 k (omega (arith, length-take-le at xs h)) ∙ get_or-take at xs k 0 lt

pub with_within : (xs : List ℕ) (at : ℕ) (ys : List ℕ) (k : ℕ) → at ≤ length xs → at ≤ k → k < at + length ys → get_or (with_bytes xs at ys) k 0 ≡ get_or ys (k - at) 0
unfolding with_bytes
with_within xs at ys k h low high =
    get_or-append_right (take at xs) (ys ++ drop (at + length ys) xs) at k 0 (length-take-le at xs h) low
    ∙ get_or_append_left ys (drop (at + length ys) xs) 0 (k - at) (omega arith)

pub with_behind : (xs : List ℕ) (at : ℕ) (ys : List ℕ) (k : ℕ) → at ≤ length xs → at + length ys ≤ k → get_or (with_bytes xs at ys) k 0 ≡ get_or xs k 0
unfolding with_bytes
with_behind xs at ys k h low =
    get_or-append_right (take at xs) (ys ++ drop (at + length ys) xs) at k 0 (length-take-le at xs h) (omega arith)
    ∙ get_or-append_right ys (drop (at + length ys) xs) (length ys) (k - at) 0 refl (omega arith)
    ∙ get_or-drop (at + length ys) xs (k - at - length ys) 0
    ∙ ap (λ (i : ℕ). get_or xs i 0) (let e : at + length ys + (k - at - length ys) ≡ k = omega arith in e)

-- two lists of bytes are equal
pub same_bytes : (xs ys : List ℕ) → length xs ≡ length ys → ((k : ℕ) → k < length xs → get_or xs k 0 ≡ get_or ys k 0) → xs ≡ ys
same_bytes xs ys l h = ext_get_or 0 xs ys l h

-- a part of a part
pub span-span : (xs : List ℕ) (at m j n : ℕ) → at + m ≤ length xs → j + n ≤ m → span (span xs at m) j n ≡ span xs (at + j) n
span-span xs at m j n fit h =
    let lm : length (span xs at m) ≡ m = length-span xs at m fit in
    let l1 : length (span (span xs at m) j n) ≡ n = length-span (span xs at m) j n (omega arith) in
    let l2 : length (span xs (at + j) n) ≡ n = length-span xs (at + j) n (omega arith) in
    same_bytes _ _ (l1 ∙ sym l2) (λ k lt.
    get_or-span (span xs at m) j n k (omega arith) ∙ get_or-span xs at m (j + k) (omega arith)
    ∙ ap (λ (i : ℕ). get_or xs i 0) (let e : at + (j + k) ≡ at + j + k = omega arith in e) ∙ sym (get_or-span xs (at + j) n k (omega arith)))

-- a part before what changed, one behind it, and one of what changed
pub span_before : (xs : List ℕ) (at : ℕ) (ys : List ℕ) (j n : ℕ) → at + length ys ≤ length xs → j + n ≤ at → span (with_bytes xs at ys) j n ≡ span xs j n
span_before xs at ys j n h b =
    let l : length (with_bytes xs at ys) ≡ length xs = length-with_bytes xs at ys h in
    let l1 : length (span (with_bytes xs at ys) j n) ≡ n = length-span (with_bytes xs at ys) j n (omega arith) in
    let l2 : length (span xs j n) ≡ n = length-span xs j n (omega arith) in
    same_bytes _ _ (l1 ∙ sym l2) (λ k lt.
    get_or-span (with_bytes xs at ys) j n k (omega arith) ∙ with_before xs at ys (j + k) (omega arith) (omega arith) ∙ sym (get_or-span xs j n k (omega arith)))

pub span_behind : (xs : List ℕ) (at : ℕ) (ys : List ℕ) (j n : ℕ) → at + length ys ≤ length xs → at + length ys ≤ j → j + n ≤ length xs → span (with_bytes xs at ys) j n ≡ span xs j n
span_behind xs at ys j n h b fit =
    let l : length (with_bytes xs at ys) ≡ length xs = length-with_bytes xs at ys h in
    let l1 : length (span (with_bytes xs at ys) j n) ≡ n = length-span (with_bytes xs at ys) j n (omega arith) in
    let l2 : length (span xs j n) ≡ n = length-span xs j n (omega arith) in
    same_bytes _ _ (l1 ∙ sym l2) (λ k lt.
    get_or-span (with_bytes xs at ys) j n k (omega arith) ∙ with_behind xs at ys (j + k) (omega arith) (omega arith) ∙ sym (get_or-span xs j n k (omega arith)))

pub span_within : (xs : List ℕ) (at : ℕ) (ys : List ℕ) (p j n : ℕ) → p ≡ at + j → at + length ys ≤ length xs → j + n ≤ length ys → span (with_bytes xs at ys) p n ≡ span ys j n
span_within xs at ys p j n e h fit =
    let l : length (with_bytes xs at ys) ≡ length xs = length-with_bytes xs at ys h in
    let l1 : length (span (with_bytes xs at ys) p n) ≡ n = length-span (with_bytes xs at ys) p n (omega arith) in
    let l2 : length (span ys j n) ≡ n = length-span ys j n fit in
    same_bytes _ _ (l1 ∙ sym l2) (λ k lt.
    get_or-span (with_bytes xs at ys) p n k (omega arith) ∙ with_within xs at ys (p + k) (omega arith) (omega arith) (omega arith)
    ∙ ap (λ (i : ℕ). get_or ys i 0) (let f : p + k - at ≡ j + k = omega arith in f) ∙ sym (get_or-span ys j n k (omega arith)))

-- two changes, of which the second goes on where the first ended
pub with_bytes-append : (xs : List ℕ) (at : ℕ) (ys zs : List ℕ) (next : ℕ) → next ≡ at + length ys → at + length ys + length zs ≤ length xs
    → with_bytes (with_bytes xs at ys) next zs ≡ with_bytes xs at (ys ++ zs)
with_bytes-append xs at ys zs next e fit =
    let l : length (with_bytes xs at ys) ≡ length xs = length-with_bytes xs at ys (omega arith) in
    let ly : length (ys ++ zs) ≡ length ys + length zs = length-append ys zs in
    let l1 : length (with_bytes (with_bytes xs at ys) next zs) ≡ length xs = length-with_bytes (with_bytes xs at ys) next zs (omega arith) ∙ l in
    let l2 : length (with_bytes xs at (ys ++ zs)) ≡ length xs = length-with_bytes xs at (ys ++ zs) (omega arith) in
    same_bytes _ _ (l1 ∙ sym l2) (λ k lt. ⊎_elim
    (λ (low : k < next). with_before (with_bytes xs at ys) next zs k (omega arith) low ∙ ⊎_elim
    (λ (first : k < at). with_before xs at ys k (omega arith) first ∙ sym (with_before xs at (ys ++ zs) k (omega arith) first))
    (λ (second : at ≤ k). with_within xs at ys k (omega arith) second (omega arith) ∙ sym (get_or_append_left ys zs 0 (k - at) (omega arith)) ∙ sym (with_within xs at (ys ++ zs) k (omega arith) second (omega arith)))
    (cases_lt k at))
    (λ (high : next ≤ k). ⊎_elim
    (λ (third : k < next + length zs). with_within (with_bytes xs at ys) next zs k (omega arith) high third
    ∙ sym (get_or-append_right ys zs (length ys) (k - at) 0 refl (omega arith) ∙ ap (λ (i : ℕ). get_or zs i 0) (let f : k - at - length ys ≡ k - next = omega arith in f))
    ∙ sym (with_within xs at (ys ++ zs) k (omega arith) (omega arith) (omega arith)))
    (λ (last : next + length zs ≤ k). with_behind (with_bytes xs at ys) next zs k (omega arith) last ∙ with_behind xs at ys k (omega arith) (omega arith) ∙ sym (with_behind xs at (ys ++ zs) k (omega arith) (omega arith)))
    (cases_lt k (next + length zs)))
    (cases_lt k next))

inner_byte : (xs : List ℕ) (at m j : ℕ) (ys : List ℕ) (k : ℕ) → at + m ≤ length xs → j + length ys ≤ m → at ≤ k → k < at + m
    → get_or (with_bytes (span xs at m) j ys) (k - at) 0 ≡ get_or (with_bytes xs (at + j) ys) k 0
inner_byte xs at m j ys k fit h high inside =
    let lm : length (span xs at m) ≡ m = length-span xs at m fit in
    let back : at + (k - at) ≡ k = omega arith in
    let old : get_or (span xs at m) (k - at) 0 ≡ get_or xs k 0 = get_or-span xs at m (k - at) (omega arith) ∙ ap (λ (i : ℕ). get_or xs i 0) back in
    ⊎_elim
    (λ (low : k - at < j). with_before (span xs at m) j ys (k - at) (omega arith) low ∙ old ∙ sym (with_before xs (at + j) ys k (omega arith) (omega arith)))
    (λ (mid : j ≤ k - at). ⊎_elim
    (λ (in_ys : k - at < j + length ys). with_within (span xs at m) j ys (k - at) (omega arith) mid in_ys
    ∙ ap (λ (i : ℕ). get_or ys i 0) (let e : k - at - j ≡ k - (at + j) = omega arith in e) ∙ sym (with_within xs (at + j) ys k (omega arith) (omega arith) (omega arith)))
    (λ (past : j + length ys ≤ k - at). with_behind (span xs at m) j ys (k - at) (omega arith) past ∙ old ∙ sym (with_behind xs (at + j) ys k (omega arith) (omega arith)))
    (cases_lt (k - at) (j + length ys)))
    (cases_lt (k - at) j)

-- a change within a part is a change of the whole
pub with_bytes-inner : (xs : List ℕ) (at m j : ℕ) (ys : List ℕ) → at + m ≤ length xs → j + length ys ≤ m
    → with_bytes xs at (with_bytes (span xs at m) j ys) ≡ with_bytes xs (at + j) ys
with_bytes-inner xs at m j ys fit h =
    let lm : length (span xs at m) ≡ m = length-span xs at m fit in
    let li : length (with_bytes (span xs at m) j ys) ≡ m = length-with_bytes (span xs at m) j ys (omega arith) ∙ lm in
    let zs : List ℕ = with_bytes (span xs at m) j ys in
    let l1 : length (with_bytes xs at zs) ≡ length xs = length-with_bytes xs at zs (omega arith) in
    let l2 : length (with_bytes xs (at + j) ys) ≡ length xs = length-with_bytes xs (at + j) ys (omega arith) in
    same_bytes _ _ (l1 ∙ sym l2) (λ k lt. ⊎_elim
    (λ (low : k < at). with_before xs at zs k (omega arith) low ∙ sym (with_before xs (at + j) ys k (omega arith) (omega arith)))
    (λ (high : at ≤ k). ⊎_elim
    (λ (inside : k < at + m). with_within xs at zs k (omega arith) high (omega arith) ∙ inner_byte xs at m j ys k fit h high inside)
    (λ (last : at + m ≤ k). with_behind xs at zs k (omega arith) (omega arith) ∙ sym (with_behind xs (at + j) ys k (omega arith) (omega arith)))
    (cases_lt k (at + m)))
    (cases_lt k at))

eight : (n : ℕ) → length (to_le_bytes w64 n) ≡ 8
eight n = refl

pub length-bytes : (ws : List ℕ) → length (bytes_of_words ws) ≡ 8 * length ws
unfolding bytes_of_words
length-bytes [] = refl
length-bytes (w ∷ ws) = length-append (to_le_bytes w64 w) (bytes_of_words ws) ∙ (let e = eight w in let h = length-bytes ws in omega arith)

-- past the first list of two
drop_past : (xs ys : List ℕ) (n k : ℕ) → length xs ≡ n → drop (n + k) (xs ++ ys) ≡ drop k ys
drop_past xs ys n k e = sym (drop-drop k n (xs ++ ys)) ∙ ap (drop k) (drop_at xs ys n e)

take_past : (xs ys : List ℕ) (n k : ℕ) → n ≡ length xs + k → take n (xs ++ ys) ≡ xs ++ take k ys
take_past [] ys n k e = ap (λ (m : ℕ). take m ys) (let f : n ≡ k = omega arith in f)
take_past (x ∷ xs) ys zero k e = absurd (omega arith)
take_past (x ∷ xs) ys (suc n) k e = ap (λ (zs : List ℕ). x ∷ zs) (take_past xs ys n k (omega arith))

-- a part of the second, and a change in it
span_past : (xs ys : List ℕ) (at m n k : ℕ) → length xs ≡ m → at ≡ m + k → span (xs ++ ys) at n ≡ span ys k n
unfolding span
span_past xs ys at m n k e h = ap (λ (j : ℕ). take n (drop j (xs ++ ys))) h ∙ ap (take n) (drop_past xs ys m k e)

with_past : (xs ys : List ℕ) (at m k : ℕ) (zs : List ℕ) → length xs ≡ m → at ≡ m + k → with_bytes (xs ++ ys) at zs ≡ xs ++ with_bytes ys k zs
unfolding with_bytes
with_past xs ys at m k zs e h =
    ap (λ (ws : List ℕ). ws ++ (zs ++ drop (at + length zs) (xs ++ ys))) (take_past xs ys at k (omega arith))
    ∙ ap (λ (ws : List ℕ). (xs ++ take k ys) ++ (zs ++ ws)) (ap (λ (j : ℕ). drop j (xs ++ ys)) (let f : at + length zs ≡ m + (k + length zs) = omega arith in f) ∙ drop_past xs ys m (k + length zs) e)
    ∙ append_assoc xs (take k ys) (zs ++ drop (k + length zs) ys)

first_span : (xs ys : List ℕ) → length xs ≡ 8 → span (xs ++ ys) 0 8 ≡ xs
unfolding span
first_span xs ys e = take_at xs ys 8 e

first_with : (xs ys zs : List ℕ) → length xs ≡ 8 → length zs ≡ 8 → with_bytes (xs ++ ys) 0 zs ≡ zs ++ ys
unfolding with_bytes
first_with xs ys zs e f = ap (λ (ws : List ℕ). zs ++ ws) (ap (λ (k : ℕ). drop k (xs ++ ys)) (let g : 0 + length zs ≡ 8 = omega arith in g) ∙ drop_at xs ys 8 e)

-- the bytes of one word
pub word_span : (ws : List ℕ) (i : ℕ) → i < length ws → span (bytes_of_words ws) (8 * i) 8 ≡ to_le_bytes w64 (get_or ws i 0)
unfolding bytes_of_words
word_span [] i h = absurd (omega arith)
word_span (w ∷ ws) zero h = first_span (to_le_bytes w64 w) (bytes_of_words ws) (eight w)
word_span (w ∷ ws) (suc i) h = span_past (to_le_bytes w64 w) (bytes_of_words ws) (8 * suc i) 8 8 (8 * i) (eight w) (omega arith) ∙ word_span ws i (omega arith)

-- the bytes after one word has changed
pub word_set : (ws : List ℕ) (i v : ℕ) → i < length ws → bytes_of_words (set ws i v) ≡ with_bytes (bytes_of_words ws) (8 * i) (to_le_bytes w64 v)
unfolding bytes_of_words
word_set [] i v h = absurd (omega arith)
word_set (w ∷ ws) zero v h = sym (first_with (to_le_bytes w64 w) (bytes_of_words ws) (to_le_bytes w64 v) (eight w) (eight v))
word_set (w ∷ ws) (suc i) v h =
    ap (λ (xs : List ℕ). to_le_bytes w64 w ++ xs) (word_set ws i v (omega arith))
    ∙ sym (with_past (to_le_bytes w64 w) (bytes_of_words ws) (8 * suc i) 8 (8 * i) (to_le_bytes w64 v) (eight w) (omega arith))

-- the bytes of a page
pub length_page : (ws : List ℕ) → length ws ≡ 512 → length (bytes_of_words ws) ≡ 4096
length_page ws h = length-bytes ws ∙ (omega arith)
