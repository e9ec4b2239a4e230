-- Bytes and words of a frame.
use Rattle.std.proofs.Common.{◌≡◌, ◌+◌, ◌*◌, ◌-◌, ◌/◌, ◌%◌, ◌<◌, ◌≤◌, ℕ, zero, suc, true, List, [], ◌∷◌, ◌++◌, length, take, drop, set, get_or, refl, sym, ap, ◌∙◌, arith, length-append, length-drop, append_assoc}
use Rattle.std.specs.Int.{w64, to_le_bytes, from_le_bytes}
use Rattle.std.specs.declared.option.Option.{Option}
use Rattle.std.proofs.Math.Seq.{take-add, take-nil, drop-append-add}
use Rattle.std.proofs.lemmas.List.{append-nil, take-append-drop, take-append-le, drop-append-le, drop-drop, drop-take, drop_all, drop-set-lt, take_at, take_more, take_more_set, length-take-le, get_or-drop}
use Rattle.std.proofs.lemmas.Nat.{le_bytes_8}
use Rattle.std.proofs.lemmas.Slice.{take-put_mid}
use borrow.Rule.Slice.PartMut.{put_mid}
use Rattle.neph_pool.specs.Bytes.{with_bytes}
use Rattle.neph_pool.specs.declared.entry.Entry.{Entry}
use Rattle.neph_pool.specs.Entries.{hold_at, words_at, word_at, with_words, with_word, is_here}
use Rattle.neph_pool.proofs.Entries.{words_at-with_words, with_words-twice}
use Rattle.neph_pool.specs.Bytes.{bytes_of, bytes_at}

pub eight : (n : ℕ) → length (to_le_bytes w64 n) ≡ 8
eight n = refl

pub length-bytes : (ws : List ℕ) → length (bytes_of ws) ≡ 8 * length ws
unfolding bytes_of
length-bytes [] = refl
length-bytes (w ∷ ws) = length-append (to_le_bytes w64 w) (bytes_of ws) ∙ (let e = eight w in let h = length-bytes ws in omega arith)

-- past the first of two lists
drop_past : (xs ys : List ℕ) (at m : ℕ) → at ≡ length xs + m → drop at (xs ++ ys) ≡ drop m ys
drop_past xs ys at m e = ap (λ (k : ℕ). drop k (xs ++ ys)) e ∙ drop-append-add xs ys m

take_past : (xs ys : List ℕ) (at m : ℕ) → at ≡ length xs + m → take at (xs ++ ys) ≡ xs ++ take m ys
take_past [] ys at m e = ap (λ (k : ℕ). take k ys) (let k : at ≡ m = omega arith in k)
take_past (x ∷ xs) ys zero m e = absurd (omega arith)
take_past (x ∷ xs) ys (suc at) m e = ap (λ (zs : List ℕ). x ∷ zs) (take_past xs ys at m (omega arith))

-- the bytes of the word i are bytes of the frame
pub word_bytes : (ws : List ℕ) (i at : ℕ) → at ≡ 8 * i → i < length ws → to_le_bytes w64 (get_or ws i 0) ≡ take 8 (drop at (bytes_of ws))
unfolding bytes_of
word_bytes [] i at e li = absurd (omega arith)
word_bytes (w ∷ ws) zero at e li =
    let b : List ℕ = to_le_bytes w64 w in
    let k : at ≡ 0 = omega arith in
    sym (ap (λ (m : ℕ). take 8 (drop m (b ++ bytes_of ws))) k ∙ take-append-le 8 b (bytes_of ws) (omega (arith, eight w)))
word_bytes (w ∷ ws) (suc i) at e li =
    word_bytes ws i (at - 8) (omega arith) (omega arith)
    ∙ ap (λ (xs : List ℕ). take 8 xs) (sym (drop_past (to_le_bytes w64 w) (bytes_of ws) at (at - 8) (omega (arith, eight w))))

-- bytes of the word i change
over_first : (xs ys bs : List ℕ) (at : ℕ) → at + length bs ≤ length xs → with_bytes (xs ++ ys) at bs ≡ with_bytes xs at bs ++ ys
over_first xs ys bs at h =
    ap (λ (zs : List ℕ). zs ++ bs ++ drop (at + length bs) (xs ++ ys)) (take-append-le at xs ys (omega arith))
    ∙ ap (λ (zs : List ℕ). take at xs ++ bs ++ zs) (drop-append-le (at + length bs) xs ys h)
    ∙ sym (append_assoc (take at xs ++ bs) (drop (at + length bs) xs) ys)

over_past : (xs ys bs : List ℕ) (at m : ℕ) → at ≡ length xs + m → with_bytes (xs ++ ys) at bs ≡ xs ++ with_bytes ys m bs
over_past xs ys bs at m e =
    ap (λ (zs : List ℕ). zs ++ bs ++ drop (at + length bs) (xs ++ ys)) (take_past xs ys at m e)
    ∙ ap (λ (zs : List ℕ). (xs ++ take m ys) ++ bs ++ zs) (drop_past xs ys (at + length bs) (m + length bs) (omega arith))
    ∙ ap (λ (zs : List ℕ). zs ++ drop (m + length bs) ys) (append_assoc xs (take m ys) bs)
    ∙ append_assoc xs (take m ys ++ bs) (drop (m + length bs) ys)

word_over : (ws bs : List ℕ) (i j at v : ℕ) → at ≡ 8 * i + j → i < length ws → j + length bs ≤ 8 → to_le_bytes w64 v ≡ with_bytes (to_le_bytes w64 (get_or ws i 0)) j bs
    → bytes_of (set ws i v) ≡ with_bytes (bytes_of ws) at bs
unfolding bytes_of
word_over [] bs i j at v e li lj h = absurd (omega arith)
word_over (w ∷ ws) bs zero j at v e li lj h =
    let k : j ≡ at = omega arith in
    ap (λ (xs : List ℕ). xs ++ bytes_of ws) h ∙ sym (over_first (to_le_bytes w64 w) (bytes_of ws) bs j (rw (eight w) lj)) ∙ ap (λ (m : ℕ). with_bytes (to_le_bytes w64 w ++ bytes_of ws) m bs) k
word_over (w ∷ ws) bs (suc i) j at v e li lj h =
    ap (λ (xs : List ℕ). to_le_bytes w64 w ++ xs) (word_over ws bs i j (at - 8) v (omega arith) (omega arith) lj h)
    ∙ sym (over_past (to_le_bytes w64 w) (bytes_of ws) bs at (at - 8) (omega (arith, eight w)))

pub over_nothing : (page : List ℕ) (at : ℕ) → with_bytes page at [] ≡ page
over_nothing page at =
    ap (λ (xs : List ℕ). xs ++ drop (at + 0) page) (append-nil (take at page)) ∙ ap (λ (k : ℕ). take at page ++ drop k page) (let e : at + 0 ≡ at = omega arith in e) ∙ take-append-drop at page

-- a write that goes on where another ended
over_next : (page cs bs : List ℕ) (at next : ℕ) → next ≡ at + length cs → at ≤ length page → with_bytes (with_bytes page at cs) next bs ≡ with_bytes page at (cs ++ bs)
over_next page cs bs at next e h =
    let T : List ℕ = take at page ++ cs in
    let D : List ℕ = drop (at + length cs) page in
    let len : length T ≡ next = length-append (take at page) cs ∙ (let l = length-take-le at page h in omega arith) in
    let both : at + length cs + length bs ≡ at + length (cs ++ bs) = let l = length-append cs bs in omega arith in
    ap (λ (xs : List ℕ). xs ++ bs ++ drop (next + length bs) (T ++ D)) (take_at T D next len)
    ∙ ap (λ (xs : List ℕ). T ++ bs ++ xs) (drop_past T D (next + length bs) (length bs) (omega arith) ∙ drop-drop (length bs) (at + length cs) page ∙ ap (λ (k : ℕ). drop k page) both)
    ∙ ap (λ (xs : List ℕ). xs ++ drop (at + length (cs ++ bs)) page) (append_assoc (take at page) cs bs)

-- n more bytes of a write
pub over_more : (page bytes : List ℕ) (at i n k : ℕ) → at ≤ length page → i + n ≤ length bytes → k ≡ n → with_bytes (with_bytes page at (take i bytes)) (at + i) (take k (drop i bytes)) ≡ with_bytes page at (take (i + n) bytes)
over_more page bytes at i n k h li e =
    let len : length (take i bytes) ≡ i = length-take-le i bytes (omega arith) in
    over_next page (take i bytes) (take k (drop i bytes)) at (at + i) (omega arith) h
    ∙ ap (λ (xs : List ℕ). with_bytes page at xs) (ap (λ (m : ℕ). take i bytes ++ take m (drop i bytes)) e ∙ sym (take-add i n bytes))

pub length_mid : (i k : ℕ) (xs ys : List ℕ) → i + k ≤ length xs → length ys ≡ k → length (put_mid i k xs ys) ≡ length xs
length_mid i k xs ys h e =
    omega (arith, length-append (take i xs) (ys ++ drop k (drop i xs)), length-append ys (drop k (drop i xs)), length-take-le i xs (omega arith), length-drop k (drop i xs), length-drop i xs)

-- n more bytes of a read
pub read_more : (buf part page : List ℕ) (at i n k : ℕ) → i ≤ length buf → length part ≡ n → take i buf ≡ take i (drop at page) → part ≡ take n (drop (at + i) page) → take (i + n) (put_mid i k buf part) ≡ take (i + n) (drop at page)
read_more buf part page at i n k h len old new =
    take-put_mid i k buf part (i + n) (omega arith) h ∙ ap (λ (xs : List ℕ). xs ++ part) old
    ∙ ap (λ (xs : List ℕ). take i (drop at page) ++ xs) (new ∙ ap (λ (xs : List ℕ). take n xs) (sym (drop-drop i at page)))
    ∙ sym (take-add i n (drop at page))

take_take : (n m : ℕ) (xs : List ℕ) → n ≤ m → take n (take m xs) ≡ take n xs
take_take n m [] h = ap (λ (xs : List ℕ). take n xs) (take-nil m)
take_take zero zero (x ∷ xs) h = refl
take_take zero (suc m) (x ∷ xs) h = refl
take_take (suc n) zero (x ∷ xs) h = absurd (omega arith)
take_take (suc n) (suc m) (x ∷ xs) h = ap (λ (ys : List ℕ). x ∷ ys) (take_take n m xs (omega arith))

-- n bytes of those that were read, from an offset on
pub read_part : (buf page : List ℕ) (at i n m : ℕ) → i + n ≤ m → take m buf ≡ take m (drop at page) → take n (drop i buf) ≡ take n (drop (at + i) page)
read_part buf page at i n m h e =
    sym (drop-take i n buf)
    ∙ ap (λ (xs : List ℕ). drop i xs) (sym (take_take (i + n) m buf h) ∙ ap (λ (xs : List ℕ). take (i + n) xs) e ∙ take_take (i + n) m (drop at page) h)
    ∙ drop-take i n (drop at page) ∙ ap (λ (xs : List ℕ). take n xs) (drop-drop i at page)

-- a frame's entries after its words changed
pub settled : (es fs : List (Option Entry)) (f : ℕ) (ws : List ℕ) → fs ≡ with_words es f ws → is_here (hold_at es f) ≡ true → fs ≡ with_words es f (words_at fs f)
settled es fs f ws e here = e ∙ ap (λ (xs : List ℕ). with_words es f xs) (sym (ap (λ (xs : List (Option Entry)). words_at xs f) e ∙ words_at-with_words es f ws here))

-- and after they changed again
pub settled_twice : (es fs gs : List (Option Entry)) (f : ℕ) (ws vs : List ℕ) → fs ≡ with_words es f ws → gs ≡ with_words fs f vs → gs ≡ with_words es f vs
settled_twice es fs gs f ws vs e h = h ∙ ap (λ (xs : List (Option Entry)). with_words xs f vs) e ∙ with_words-twice es f ws vs

-- bytes have been written within a word
pub wrote : (es fs gs : List (Option Entry)) (f at v : ℕ) (bs : List ℕ) → fs ≡ es → gs ≡ with_word fs f (at / 8) v → is_here (hold_at es f) ≡ true → length (words_at es f) ≡ 512 → at < 4096
    → at % 8 + length bs ≤ 8 → to_le_bytes w64 v ≡ with_bytes (to_le_bytes w64 (word_at es f (at / 8))) (at % 8) bs → bytes_at gs f ≡ with_bytes (bytes_at es f) at bs
wrote es fs gs f at v bs e h here long lt within is =
    let at' : at ≡ 8 * (at / 8) + at % 8 = omega arith in
    let fit : at / 8 < length (words_at es f) = omega arith in
    let new : words_at gs f ≡ set (words_at es f) (at / 8) v
    = ap (λ (xs : List (Option Entry)). words_at xs f) (h ∙ ap (λ (xs : List (Option Entry)). with_word xs f (at / 8) v) e) ∙ words_at-with_words es f _ here in
    ap bytes_of new ∙ word_over (words_at es f) bs (at / 8) (at % 8) at v at' fit within is

byte_small : (n i : ℕ) → get_or (to_le_bytes w64 n) i 0 < 256
byte_small n zero = omega arith
byte_small n (suc zero) = omega arith
byte_small n (suc (suc zero)) = omega arith
byte_small n (suc (suc (suc zero))) = omega arith
byte_small n (suc (suc (suc (suc zero)))) = omega arith
byte_small n (suc (suc (suc (suc (suc zero))))) = omega arith
byte_small n (suc (suc (suc (suc (suc (suc zero)))))) = omega arith
byte_small n (suc (suc (suc (suc (suc (suc (suc zero))))))) = omega arith
byte_small n (suc (suc (suc (suc (suc (suc (suc (suc i)))))))) = omega arith

abbrev AreBytes : List ℕ → Type 0
AreBytes xs = (i : ℕ) → get_or xs i 0 < 256

small_both : (xs ys : List ℕ) → AreBytes xs → AreBytes ys → AreBytes (xs ++ ys)
small_both [] ys h k i = k i
small_both (x ∷ xs) ys h k zero = h zero
small_both (x ∷ xs) ys h k (suc i) = small_both xs ys (λ j. h (suc j)) k i

small_take : (n : ℕ) (xs : List ℕ) → AreBytes xs → AreBytes (take n xs)
small_take zero xs h i = omega arith
small_take (suc n) [] h i = omega arith
small_take (suc n) (x ∷ xs) h zero = h zero
small_take (suc n) (x ∷ xs) h (suc i) = small_take n xs (λ j. h (suc j)) i

small_drop : (n : ℕ) (xs : List ℕ) → AreBytes xs → AreBytes (drop n xs)
small_drop n xs h i = rw (get_or-drop n xs i 0) (h (n + i))

set_one : (xs : List ℕ) (i x : ℕ) → i < length xs → set xs i x ≡ with_bytes xs i (x ∷ [])
set_one xs i x h =
    sym (take-append-drop (i + 1) (set xs i x)) ∙ ap (λ (ys : List ℕ). ys ++ drop (i + 1) (set xs i x)) (take_more_set xs i x h)
    ∙ ap (λ (ys : List ℕ). (take i xs ++ x ∷ []) ++ ys) (drop-set-lt (i + 1) xs i x (omega arith))

-- one byte more of a word
pub lane_more : (word bs now : List ℕ) (j i d : ℕ) → length now ≡ length word → now ≡ with_bytes word j (take i bs) → i < length bs → j + length bs ≤ length word → set now (j + i) (get_or bs i d) ≡ with_bytes word j (take (i + 1) bs)
lane_more word bs now j i d long is lt within =
    let x : ℕ = get_or bs i d in
    let len : length (take i bs) ≡ i = length-take-le i bs (omega arith) in
    set_one now (j + i) x (omega arith) ∙ ap (λ (xs : List ℕ). with_bytes xs (j + i) (x ∷ [])) is
    ∙ over_next word (take i bs) (x ∷ []) j (j + i) (omega arith) (omega arith) ∙ ap (λ (xs : List ℕ). with_bytes word j xs) (sym (take_more bs i d lt))

-- all bytes of a word are new
pub all_over : (w j : ℕ) (bs : List ℕ) → j ≡ 0 → length bs ≡ 8 → with_bytes (to_le_bytes w64 w) j bs ≡ bs
all_over w j bs none long =
    let b : List ℕ = to_le_bytes w64 w in
    ap (λ (k : ℕ). with_bytes b k bs) none ∙ ap (λ (xs : List ℕ). bs ++ xs) (drop_all (0 + length bs) b (omega (arith, eight w))) ∙ append-nil bs

-- the bytes of a word after some have changed
pub word_after : (w v j : ℕ) (word bs : List ℕ) → word ≡ with_bytes (to_le_bytes w64 w) j bs → j + length bs ≤ 8 → ((i : ℕ) → get_or bs i 0 < 256) → v ≡ from_le_bytes w64 word → to_le_bytes w64 v ≡ with_bytes (to_le_bytes w64 w) j bs
word_after w v j word bs is within small val =
    let b : List ℕ = to_le_bytes w64 w in
    let l1 = length-append (take j b ++ bs) (drop (j + length bs) b) in
    let l2 = length-append (take j b) bs in
    let l3 = length-take-le j b (rw (eight w) (omega arith)) in
    let l4 = length-drop (j + length bs) b in
    let l5 = eight w in
    le_bytes_8 (with_bytes b j bs) v (omega arith)
    (small_both (take j b ++ bs) (drop (j + length bs) b) (small_both (take j b) bs (small_take j b (byte_small w)) small) (small_drop (j + length bs) b (byte_small w)))
    (val ∙ ap (from_le_bytes w64) is)
