-- Bytes that are read and written piece by piece, and frames that are filled.
use Rattle.std.proofs.Common.{◌≡◌, ◌≢◌, ℕ, zero, suc, ◌+◌, ◌*◌, ◌≤◌, true, List, [], ◌∷◌, ◌++◌, length, take, drop, replicate, refl, sym, ap, ◌∙◌, arith, length-append, length-drop, eq-eqb, ne_eqb}
use Rattle.std.proofs.lemmas.List.{length-take-le}
use Rattle.std.proofs.Math.Seq.{take-append_seam}
use Rattle.std.specs.declared.option.Option.{Option}
use Rattle.neph_model.specs.Memory.{zero_page, child_network_page}
use Rattle.neph_pool.specs.declared.entry.Entry.{Entry}
use Rattle.neph_pool.specs.Entries.{hold_at, words_at, is_here, with_words}
use Rattle.neph_pool.specs.Bytes.{bytes_at, bytes_of}
use Rattle.neph_pool.proofs.Entries.{words_at-with_words}
use Rattle.neph_ptab.specs.Tables.{zero_words}
use Rattle.neph_heap.specs.Pages.{child_page}

abbrev no_bytes : List ℕ
no_bytes = []

take_none : (n : ℕ) → take n no_bytes ≡ []
take_none zero = refl
take_none (suc n) = refl

drop_none : (n : ℕ) → drop n no_bytes ≡ []
drop_none zero = refl
drop_none (suc n) = refl

take_add : (a b : ℕ) (xs : List ℕ) → take (a + b) xs ≡ take a xs ++ take b (drop a xs)
take_add zero b [] = let e : zero + b ≡ b = omega arith in ap (λ (n : ℕ). take n no_bytes) e
take_add zero b (x ∷ xs) = let e : zero + b ≡ b = omega arith in ap (λ (n : ℕ). take n (x ∷ xs)) e
take_add (suc a) b [] = take_none (suc a + b) ∙ sym (take_none b)
take_add (suc a) b (x ∷ xs) = let e : suc a + b ≡ suc (a + b) = omega arith in ap (λ (n : ℕ). take n (x ∷ xs)) e ∙ ap (λ (ys : List ℕ). x ∷ ys) (take_add a b xs)

drop_add : (a b : ℕ) (xs : List ℕ) → drop (a + b) xs ≡ drop b (drop a xs)
drop_add zero b [] = let e : zero + b ≡ b = omega arith in ap (λ (n : ℕ). drop n no_bytes) e
drop_add zero b (x ∷ xs) = let e : zero + b ≡ b = omega arith in ap (λ (n : ℕ). drop n (x ∷ xs)) e
drop_add (suc a) b [] = drop_none (suc a + b) ∙ sym (drop_none b)
drop_add (suc a) b (x ∷ xs) = let e : suc a + b ≡ suc (a + b) = omega arith in ap (λ (n : ℕ). drop n (x ∷ xs)) e ∙ drop_add a b xs

-- one more piece of a read
pub piece_more : (into new page piece : List ℕ) (at done n : ℕ) → new ≡ take done into ++ piece ++ drop (done + length piece) into → piece ≡ take n (drop (at + done) page) → done ≤ length into → at + done + n ≤ length page → take done into ≡ take done (drop at page) → take (done + n) new ≡ take (done + n) (drop at page)
piece_more into new page piece at done n is cut fit long was =
    let small : n ≤ length (drop (at + done) page) = omega (arith, length-drop (at + done) page) in
    let size : length piece ≡ n = ap length cut ∙ length-take-le n (drop (at + done) page) small in
    let front : length (take done into ++ piece) ≡ done + n = length-append (take done into) piece ∙ omega (arith, length-take-le done into fit, size) in
    ap (λ (xs : List ℕ). take (done + n) xs) is
    ∙ ap (λ (k : ℕ). take k ((take done into ++ piece) ++ drop (done + length piece) into)) (sym front)
    ∙ take-append_seam (take done into ++ piece) (drop (done + length piece) into)
    ∙ ap (λ (xs : List ℕ). xs ++ piece) was ∙ ap (λ (xs : List ℕ). take done (drop at page) ++ xs) (cut ∙ ap (λ (xs : List ℕ). take n xs) (drop_add at done page))
    ∙ sym (take_add done n (drop at page))

zero_bytes : (n m : ℕ) → m ≡ 8 * n → bytes_of (replicate n 0) ≡ replicate m 0
unfolding bytes_of
zero_bytes zero zero e = refl
zero_bytes zero (suc m) e = absurd (omega arith)
zero_bytes (suc n) (suc (suc (suc (suc (suc (suc (suc (suc m)))))))) e = ap (λ (xs : List ℕ). 0 ∷ 0 ∷ 0 ∷ 0 ∷ 0 ∷ 0 ∷ 0 ∷ 0 ∷ xs) (zero_bytes n m (omega arith))
zero_bytes (suc n) zero e = absurd (omega arith)
zero_bytes (suc n) (suc zero) e = absurd (omega arith)
zero_bytes (suc n) (suc (suc zero)) e = absurd (omega arith)
zero_bytes (suc n) (suc (suc (suc zero))) e = absurd (omega arith)
zero_bytes (suc n) (suc (suc (suc (suc zero)))) e = absurd (omega arith)
zero_bytes (suc n) (suc (suc (suc (suc (suc zero))))) e = absurd (omega arith)
zero_bytes (suc n) (suc (suc (suc (suc (suc (suc zero)))))) e = absurd (omega arith)
zero_bytes (suc n) (suc (suc (suc (suc (suc (suc (suc zero))))))) e = absurd (omega arith)

wiped : bytes_of zero_words ≡ zero_page
unfolding zero_words zero_page
wiped = zero_bytes 512 4096 refl

-- a frame of zeros
pub wiped_bytes : (es fs : List (Option Entry)) (f : ℕ) → fs ≡ with_words es f zero_words → is_here (hold_at es f) ≡ true → bytes_at fs f ≡ zero_page
wiped_bytes es fs f e here = ap bytes_of (ap (λ (xs : List (Option Entry)). words_at xs f) e ∙ words_at-with_words es f zero_words here) ∙ wiped

-- a frame with the words of another
pub copied_bytes : (es fs : List (Option Entry)) (f t : ℕ) → fs ≡ with_words es t (words_at es f) → is_here (hold_at es t) ≡ true → bytes_at fs t ≡ bytes_at es f
copied_bytes es fs f t e here = ap bytes_of (ap (λ (xs : List (Option Entry)). words_at xs t) e ∙ words_at-with_words es t (words_at es f) here)

-- what a child gets of each page
pub console_page : (pfn : ℕ) (page : List ℕ) → pfn ≡ 1 → child_page pfn page ≡ zero_page
unfolding child_page
console_page pfn page e = rw (eq-eqb pfn 1 e) refl

pub network_page : (pfn : ℕ) (page : List ℕ) → pfn ≡ 2 → child_page pfn page ≡ child_network_page page
unfolding child_page
network_page pfn page e = rw (ne_eqb pfn 1 (λ (k : pfn ≡ 1). omega arith), eq-eqb pfn 2 e) refl

pub p9_page : (pfn : ℕ) (page : List ℕ) → pfn ≡ 3 → child_page pfn page ≡ zero_page
unfolding child_page
p9_page pfn page e = rw (ne_eqb pfn 1 (λ (k : pfn ≡ 1). omega arith), ne_eqb pfn 2 (λ (k : pfn ≡ 2). omega arith), eq-eqb pfn 3 e) refl

pub other_page : (pfn : ℕ) (page : List ℕ) → pfn ≢ 1 → pfn ≢ 2 → pfn ≢ 3 → child_page pfn page ≡ page
unfolding child_page
other_page pfn page a b c = rw (ne_eqb pfn 1 a, ne_eqb pfn 2 b, ne_eqb pfn 3 c) refl
