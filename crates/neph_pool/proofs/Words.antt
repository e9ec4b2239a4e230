-- The words of frames, by the places of their pages.
use Rattle.std.proofs.Common.{◌≡◌, ◌≢◌, ℕ, zero, suc, ◌-◌, ◌<◌, inl, inr, List, [], ◌∷◌, ◌++◌, length, set, get_or, replicate, take, refl, sym, ap, ◌∙◌, arith}
use Rattle.std.proofs.lemmas.List.{map-set, length-map, get_or-map, ext_get_or, map-append}
use Rattle.std.proofs.Math.Seq.{map-set_same}
use Rattle.neph_pool.specs.declared.page.Page.{Page}
use Rattle.neph_pool.specs.Page.{page_words, blank_page, words_in}
use Rattle.neph_pool.proofs.Rows.{same_or_not}

pub words_blank : (ws : List (List ℕ)) (n : ℕ) → get_or ws 0 [] ≡ blank_page → words_in ws (replicate n 0) ≡ replicate n blank_page
unfolding words_in
words_blank ws zero h = refl
words_blank ws (suc n) h = ap (λ (w : List ℕ). w ∷ words_in ws (replicate n 0)) h ∙ ap (λ (xs : List (List ℕ)). blank_page ∷ xs) (words_blank ws n h)

abbrev no_places : List ℕ
no_places = []

take_none : (n : ℕ) → take n no_places ++ replicate (n - 0) 0 ≡ replicate n 0
take_none zero = refl
take_none (suc n) = ap (λ (k : ℕ). replicate k 0) (let e : suc n - 0 ≡ suc n = omega arith in e)

-- the words of one frame
pub words_here : (ws : List (List ℕ)) (ps : List ℕ) (f : ℕ) → f < length ps → get_or (words_in ws ps) f [] ≡ get_or ws (get_or ps f 0) []
unfolding words_in
words_here ws ps f h = get_or-map (λ (p : ℕ). get_or ws p []) ps f 0 [] h

pub words_length : (ws : List (List ℕ)) (ps : List ℕ) → length (words_in ws ps) ≡ length ps
unfolding words_in
words_length ws ps = length-map ps (λ (p : ℕ). get_or ws p [])

get_or_front : (ws : List (List ℕ)) (w : List ℕ) (i : ℕ) → i < length ws → get_or (ws ++ w ∷ []) i [] ≡ get_or ws i []
get_or_front [] w i h = absurd (omega arith)
get_or_front (x ∷ ws) w zero h = refl
get_or_front (x ∷ ws) w (suc i) h = get_or_front ws w i (omega arith)

get_or_last : (ws : List (List ℕ)) (w : List ℕ) → get_or (ws ++ w ∷ []) (length ws) [] ≡ w
get_or_last [] w = refl
get_or_last (x ∷ ws) w = get_or_last ws w

words_more : (ws : List (List ℕ)) (w : List ℕ) (ps : List ℕ) → ((i : ℕ) → get_or ps i 0 < length ws) → words_in (ws ++ w ∷ []) ps ≡ words_in ws ps
words_more ws w ps h = ext_get_or [] _ _ (words_length (ws ++ w ∷ []) ps ∙ sym (words_length ws ps))
    (λ i lt. let fit : i < length ps = omega (arith, words_length (ws ++ w ∷ []) ps) in words_here (ws ++ w ∷ []) ps i fit ∙ get_or_front ws w (get_or ps i 0) (h i) ∙ sym (words_here ws ps i fit))

words_moved : (ws : List (List ℕ)) (ps : List ℕ) (f k : ℕ) → get_or ws k [] ≡ get_or ws (get_or ps f 0) [] → words_in ws (set ps f k) ≡ words_in ws ps
unfolding words_in
words_moved ws ps f k e = map-set_same (λ (p : ℕ). get_or ws p []) ps f k 0 e

-- a frame takes the place of another page
pub words_reads : (ws : List (List ℕ)) (ps : List ℕ) (f k : ℕ) → words_in ws (set ps f k) ≡ set (words_in ws ps) f (get_or ws k [])
unfolding words_in
words_reads ws ps f k = map-set (λ (p : ℕ). get_or ws p []) ps f k

-- a frame without a page of its own is blank
pub words_unmade : (ws : List (List ℕ)) (ps : List ℕ) (f : ℕ) → get_or ps f 0 ≡ 0 → get_or ws 0 [] ≡ blank_page → words_in ws ps ≡ set (words_in ws ps) f blank_page
words_unmade ws ps f none blank =
    sym (words_moved ws ps f 0 (ap (λ (p : ℕ). get_or ws p []) (sym none))) ∙ words_reads ws ps f 0 ∙ ap (λ (w : List ℕ). set (words_in ws ps) f w) blank

-- its words
pub words_zero : (ws : List (List ℕ)) (ps : List ℕ) (f : ℕ) → f < length ps → get_or ps f 0 ≡ 0 → get_or ws 0 [] ≡ blank_page → get_or (words_in ws ps) f [] ≡ blank_page
words_zero ws ps f fit none blank = words_here ws ps f fit ∙ ap (λ (p : ℕ). get_or ws p []) none ∙ blank

abbrev zeros : ℕ → List ℕ
zeros n = replicate n 0

set_zeros : (n w : ℕ) → set (zeros n) w 0 ≡ zeros n
set_zeros zero w = refl
set_zeros (suc n) zero = refl
set_zeros (suc n) (suc w) = ap (λ (xs : List ℕ). 0 ∷ xs) (set_zeros n w)

-- it stays blank where a 0 is written
pub words_still : (ws : List (List ℕ)) (ps : List ℕ) (f w : ℕ) → f < length ps → get_or ps f 0 ≡ 0 → get_or ws 0 [] ≡ blank_page → words_in ws ps ≡ set (words_in ws ps) f (set (get_or (words_in ws ps) f []) w 0)
words_still ws ps f w fit none blank =
    words_unmade ws ps f none blank
    ∙ ap (λ (xs : List ℕ). set (words_in ws ps) f xs) (sym (ap (λ (xs : List ℕ). set xs w 0) (words_zero ws ps f fit none blank) ∙ set_zeros 512 w))

-- a frame gets a page of its own
pub words_made : (xs : List Page) (x : Page) (ps : List ℕ) (f n : ℕ) → n ≡ length xs → ((i : ℕ) → get_or ps i 0 < n) → words_in (page_words (xs ++ x ∷ [])) (set ps f n) ≡ set (words_in (page_words xs) ps) f x.words
words_made xs x ps f n len within =
    let ws = page_words xs in
    let same : n ≡ length ws = len ∙ sym (length-map xs (λ (y : Page). y.words)) in
    let at : get_or (ws ++ x.words ∷ []) n [] ≡ x.words = ap (λ (k : ℕ). get_or (ws ++ x.words ∷ []) k []) same ∙ get_or_last ws x.words in
    rw (map-append (λ (y : Page). y.words) xs (x ∷ []))
    (words_reads (ws ++ x.words ∷ []) ps f n ∙ ap (λ (w : List ℕ). set (words_in (ws ++ x.words ∷ []) ps) f w) at
    ∙ ap (λ (vs : List (List ℕ)). set vs f x.words) (words_more ws x.words ps (λ i. let w = within i in omega arith)))

get_or_set : (ws : List (List ℕ)) (k : ℕ) (w : List ℕ) → k < length ws → get_or (set ws k w) k [] ≡ w
get_or_set [] k w h = absurd (omega arith)
get_or_set (x ∷ ws) zero w h = refl
get_or_set (x ∷ ws) (suc k) w h = get_or_set ws k w (omega arith)

get_or_else : (ws : List (List ℕ)) (k i : ℕ) (w : List ℕ) → i ≢ k → get_or (set ws k w) i [] ≡ get_or ws i []
get_or_else [] k i w n = refl
get_or_else (x ∷ ws) zero zero w n = absurd (n refl)
get_or_else (x ∷ ws) zero (suc i) w n = refl
get_or_else (x ∷ ws) (suc k) zero w n = refl
get_or_else (x ∷ ws) (suc k) (suc i) w n = get_or_else ws k i w (λ e. n (ap suc e))

length_set : (ws : List (List ℕ)) (k : ℕ) (w : List ℕ) → length (set ws k w) ≡ length ws
length_set [] k w = refl
length_set (x ∷ ws) zero w = refl
length_set (x ∷ ws) (suc k) w = ap suc (length_set ws k w)

words_put : (ws : List (List ℕ)) (ps : List ℕ) (f k : ℕ) (w : List ℕ) → f < length ps → k < length ws → k ≡ get_or ps f 0 → ((i : ℕ) → i ≢ f → get_or ps i 0 ≢ k) → words_in (set ws k w) ps ≡ set (words_in ws ps) f w
words_put ws ps f k w fit within is apart =
    ext_get_or [] _ _ (words_length (set ws k w) ps ∙ sym (words_length ws ps) ∙ sym (length_set (words_in ws ps) f w))
    (λ i lt. let lt' : i < length ps = omega (arith, words_length (set ws k w) ps) in
    words_here (set ws k w) ps i lt' ∙ elim (same_or_not i f) [
      | inl e ↦ ap (λ (j : ℕ). get_or (set ws k w) (get_or ps j 0) []) e ∙ ap (λ (j : ℕ). get_or (set ws k w) j []) (sym is) ∙ get_or_set ws k w within
          ∙ sym (get_or_set (words_in ws ps) f w (omega (arith, words_length ws ps))) ∙ ap (λ (j : ℕ). get_or (set (words_in ws ps) f w) j []) (sym e)
      | inr n ↦ get_or_else ws k (get_or ps i 0) w (apart i n) ∙ sym (words_here ws ps i lt') ∙ sym (get_or_else (words_in ws ps) f i w n)
    ])

-- a frame's own page is changed
pub words_set : (xs : List Page) (y : Page) (ps : List ℕ) (f k n : ℕ) → f < length ps → n ≡ length xs → k ≡ get_or ps f 0 → k ≢ 0 → ((i : ℕ) → get_or ps i 0 < n)
    → ((i j : ℕ) → i ≢ j → get_or ps i 0 ≡ get_or ps j 0 → get_or ps i 0 ≡ 0) → words_in (page_words (set xs k y)) ps ≡ set (words_in (page_words xs) ps) f y.words
words_set xs y ps f k n fit len is own within apart =
    rw (map-set (λ (x : Page). x.words) xs k y)
    (words_put (page_words xs) ps f k y.words fit (let w = within f in omega (arith, length-map xs (λ (x : Page). x.words))) is
    (λ i ne e. own (sym e ∙ apart i f ne (e ∙ is))))

-- the words of the page that a frame reads
pub page_here : (xs : List Page) (x : Page) (ps : List ℕ) (f k : ℕ) → f < length ps → k ≡ get_or ps f 0 → k < length xs → x ≡ get_or xs k x → get_or (words_in (page_words xs) ps) f [] ≡ x.words
page_here xs x ps f k fit is lt at =
    words_here (page_words xs) ps f fit ∙ ap (λ (j : ℕ). get_or (page_words xs) j []) (sym is) ∙ get_or-map (λ (y : Page). y.words) xs k x [] lt ∙ ap (λ (y : Page). y.words) (sym at)

-- the first page alone
pub words_new : (xs ys : List Page) (x : Page) (ps qs : List ℕ) (m n : ℕ) → x.words ≡ blank_page → ys ≡ [] → xs ≡ ys ++ x ∷ [] → qs ≡ [] → m ≡ 0 → ps ≡ take n qs ++ replicate (n - m) 0 → words_in (page_words xs) ps ≡ replicate n blank_page
words_new xs ys x ps qs m n new none made empty zero' all =
    let first : get_or (page_words xs) 0 [] ≡ blank_page = rw (made, none) new in
    let same : ps ≡ replicate n 0 = rw (all, empty, zero') (take_none n) in
    rw same (words_blank (page_words xs) n first)
