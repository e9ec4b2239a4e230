-- Sums over ids, books and colours, in either order.
use Rattle.std.proofs.Common.{◌≡◌, ℕ, zero, suc, ◌+◌, ◌*◌, ◌<◌, ◌≤◌, Bool, true, false, cond, inl, inr, List, [], ◌∷◌, length, get_or, Option, None, refl, sym, ap, ◌∙◌, arith}
use Rattle.std.specs.Prelude.{◌==◌, nat_lt, not, count_by}
use Rattle.std.specs.Option.{is_some}
use Rattle.std.specs.List.{sum_by, range_with_len}
use Rattle.std.proofs.lemmas.Bool.{false≢true}
use Rattle.std.proofs.lemmas.Bool.Decides.{leb_tells}
use Rattle.std.proofs.lemmas.List.Sums.{sum_by-cons}
use Rattle.neph_model.specs.declared.book.Book.{Book}
use Rattle.neph_model.specs.Books.{Books, no_book, pages_in, pages_of, colours_used}
use Rattle.neph_runs.proofs.Sums.{sum_le}
use Rattle.neph_runs.proofs.Colours.{bit, bit_cases, times, times_cons, pages_least}
use Rattle.neph_runs.proofs.StartSound.{shifted, sum_none}

pub list_ids : {X : Type 0} (f : X → ℕ) (d : X) (n : ℕ) (l : List X) → length l ≡ n → sum_by f l ≡ sum_by (λ j. f (get_or l j d)) (range_with_len 0 n)
list_ids f d zero [] e = refl
list_ids f d zero (x ∷ xs) e = absurd (omega arith)
list_ids f d (suc n) [] e = absurd (omega arith)
list_ids f d (suc n) (x ∷ xs) e =
    let rest = list_ids f d n xs (omega arith) in
    let g : ℕ → ℕ = λ j. f (get_or (x ∷ xs) j d) in
    omega (arith, rest, sum_by-cons f x xs, sum_by-cons g 0 (range_with_len 1 n), shifted g 0 n)

pub sum_plus : {A : Type 0} (f g : A → ℕ) (ds : List A) → sum_by (λ d. f d + g d) ds ≡ sum_by f ds + sum_by g ds
sum_plus f g [] = refl
sum_plus {A} f g (d ∷ ds) = omega (arith, sum_by-cons (λ (k : A). f k + g k) d ds, sum_by-cons f d ds, sum_by-cons g d ds, sum_plus f g ds)

sum_zero : {A : Type 0} (ds : List A) → sum_by (λ d. 0) ds ≡ 0
sum_zero [] = refl
sum_zero {A} (d ∷ ds) = omega (arith, sum_by-cons (λ (k : A). 0) d ds, sum_zero ds)

-- sums may be taken in either order
pub swap : {A : Type 0} (g : A → ℕ → ℕ) (xs : List A) (ds : List ℕ) → sum_by (λ d. sum_by (λ x. g x d) xs) ds ≡ sum_by (λ x. sum_by (g x) ds) xs
swap g [] ds = sum_zero ds
swap {A} g (x ∷ xs) ds = go ds ∙ sum_plus (g x) (λ d. sum_by (λ y. g y d) xs) ds ∙ omega (arith, swap g xs ds, sum_by-cons (λ (y : A). sum_by (g y) ds) x xs) where
  go : (es : List ℕ) → sum_by (λ d. sum_by (λ y. g y d) (x ∷ xs)) es ≡ sum_by (λ d. g x d + sum_by (λ y. g y d) xs) es
  go [] = refl
  go (e ∷ es) = omega (arith, go es, sum_by-cons (λ (d : ℕ). sum_by (λ y. g y d) (x ∷ xs)) e es, sum_by-cons (λ (d : ℕ). g x d + sum_by (λ y. g y d) xs) e es, sum_by-cons (λ (y : A). g y e) x xs)

-- a sum over a list of no greater numbers
pub each_le : {A : Type 0} (f g : A → ℕ) (xs : List A) → ((x : A) → g x ≤ f x) → sum_by g xs ≤ sum_by f xs
each_le f g [] h = omega arith
each_le f g (x ∷ xs) h = let here = h x in omega (arith, here, each_le f g xs h, sum_by-cons f x xs, sum_by-cons g x xs)

one_none : (x a n : ℕ) → x < a → sum_by (λ k. bit (x == k)) (range_with_len a n) ≡ 0
one_none x a zero lt = refl
one_none x a (suc n) lt = elim (bit_cases x a) [ inl h ↦ absurd (omega (arith, h.0)) | inr h ↦ omega (arith, h.1, one_none x (a + 1) n (omega arith), sum_by-cons (λ (k : ℕ). bit (x == k)) a (range_with_len (a + 1) n)) ]

one_most : (x a n : ℕ) → sum_by (λ k. bit (x == k)) (range_with_len a n) ≤ 1
one_most x a zero = omega arith
one_most x a (suc n) = elim (bit_cases x a) [
  | inl h ↦ omega (arith, h.1, one_none x (a + 1) n (omega (arith, h.0)), sum_by-cons (λ (k : ℕ). bit (x == k)) a (range_with_len (a + 1) n))
  | inr h ↦ omega (arith, h.1, one_most x (a + 1) n, sum_by-cons (λ (k : ℕ). bit (x == k)) a (range_with_len (a + 1) n))
]

-- the numbers of a list are counted once at most
times_most : (n : ℕ) (cs : List ℕ) → sum_by (λ k. times k cs) (range_with_len 0 n) ≤ length cs
times_most n [] = omega (arith, sum_none 0 n)
times_most n (x ∷ xs) =
    let ks = range_with_len 0 n in
    let cut = sum_le (λ k. bit (x == k) + times k xs) (λ k. times k (x ∷ xs)) 0 n (λ k low high. omega (arith, times_cons k x xs)) in
    omega (arith, cut, sum_plus (λ k. bit (x == k)) (λ k. times k xs) ks, one_most x 0 n, times_most n xs)

some_most : (n : ℕ) → bit (nat_lt 0 n) ≤ n
some_most n = elim (leb_tells 1 n) [ inl h ↦ (let e = ap bit h.0 in omega (arith, e, h.1)) | inr h ↦ (let e = ap bit h.0 in omega (arith, e)) ]

-- there are no more colours than pages
pub colours_pages : (bs : Books) → colours_used bs ≤ sum_by (λ (b : Book). length b.colours) bs.list
colours_pages bs =
    let ks = range_with_len 0 bs.fresh in
    let first = sum_le (λ k. pages_of k bs) (λ k. bit (nat_lt 0 (pages_of k bs))) 0 bs.fresh (λ k low high. some_most (pages_of k bs)) in
    let order = swap (λ (b : Book) k. pages_in k b) bs.list ks in
    let last = each_le (λ (b : Book). length b.colours) (λ (b : Book). sum_by (λ k. times k b.colours) ks) bs.list (λ b. times_most bs.fresh b.colours) in
    omega (arith, first, order, last)

-- a number that is in a range, where a test is met by it
met_once : (p : ℕ → Bool) (x a n : ℕ) → a ≤ x → x < a + n → bit (p x) ≤ sum_by (λ k. cond (p k) (bit (x == k)) 0) (range_with_len a n)
met_once p x a zero le lt = absurd (omega arith)
met_once p x a (suc n) le lt = elim (bit_cases x a) [
  | inl h ↦
      let e = ap p h.0 in
      let here : cond (p a) (bit (x == a)) 0 ≡ bit (p x) = ap (λ v. cond (p a) v 0) h.1 ∙ ap bit (sym e) in
      omega (arith, here, sum_by-cons (λ (k : ℕ). cond (p k) (bit (x == k)) 0) a (range_with_len (a + 1) n))
  | inr h ↦ let rest = met_once p x (a + 1) n (omega (arith, h.0)) (omega arith) in omega (arith, rest, sum_by-cons (λ (k : ℕ). cond (p k) (bit (x == k)) 0) a (range_with_len (a + 1) n))
]

met_by : (p : ℕ → Bool) (n : ℕ) (cs : List ℕ) → ((y : ℕ) → 0 < times y cs → y < n) → count_by p cs ≤ sum_by (λ k. cond (p k) (times k cs) 0) (range_with_len 0 n)
met_by p n [] h = omega arith
met_by p n (x ∷ xs) h =
    let ks = range_with_len 0 n in
    let head : x < n = h x (first x) in
    let one = met_once p x 0 n (omega arith) (omega arith) in
    let rest = met_by p n xs (λ y pos. h y (omega (arith, pos, times_cons y x xs))) in
    let cut = sum_le (λ k. cond (p k) (times k (x ∷ xs)) 0) (λ k. cond (p k) (bit (x == k)) 0 + cond (p k) (times k xs) 0) 0 n (λ k low high. split (p k) (bit (x == k)) (times k xs) (times k (x ∷ xs)) (times_cons k x xs)) in
    omega (arith, cut, one, rest, sum_plus (λ k. cond (p k) (bit (x == k)) 0) (λ k. cond (p k) (times k xs) 0) ks, sum_by-cons (λ (y : ℕ). bit (p y)) x xs)
  where
    first : (x : ℕ) → 0 < times x (x ∷ xs)
    first x = elim (bit_cases x x) [ inl k ↦ omega (arith, k.1, times_cons x x xs) | inr k ↦ absurd (k.0 refl) ]

    split : (b : Bool) (u v w : ℕ) → w ≡ u + v → cond b u 0 + cond b v 0 ≤ cond b w 0
    split true u v w e = omega arith
    split false u v w e = omega arith

-- a colour is on one page at most
abbrev pub alone : Books → ℕ → Bool
alone bs c = not (nat_lt 1 (pages_of c bs))

cond_sum : {A : Type 0} (b : Bool) (f : A → ℕ) (xs : List A) → sum_by (λ x. cond b (f x) 0) xs ≡ cond b (sum_by f xs) 0
cond_sum true f xs = refl
cond_sum false f xs = sum_zero xs

few_alone : (n : ℕ) → cond (not (nat_lt 1 n)) n 0 ≤ bit (nat_lt 0 n)
few_alone zero = omega arith
few_alone (suc zero) = omega arith
few_alone (suc (suc n)) = elim (leb_tells 2 (suc (suc n))) [
  | inl h ↦ (let e = ap (λ b. cond (not b) (suc (suc n)) 0) h.0 in omega (arith, e))
  | inr h ↦ absurd (omega (arith, h.1))
]

-- there are no fewer colours than pages whose colour no other page has
pub alone_pages : (bs : Books) (n : ℕ) → length bs.list ≡ n → ((c : ℕ) → 0 < pages_of c bs → c < bs.fresh) → sum_by (λ j. count_by (alone bs) (get_or bs.list j no_book).colours) (range_with_len 0 n) ≤ colours_used bs
alone_pages bs n size small =
    let ks = range_with_len 0 bs.fresh in
    let p = alone bs in
    let f : Book → ℕ = λ (b : Book). sum_by (λ k. cond (p k) (times k b.colours) 0) ks in
    let first = sum_le (λ j. f (get_or bs.list j no_book)) (λ j. count_by p (get_or bs.list j no_book).colours) 0 n
    (λ j low high. met_by p bs.fresh (get_or bs.list j no_book).colours (λ y pos. small y (let least = pages_least y bs j (omega (arith, high, size)) in omega (arith, pos, least)))) in
    let flat = list_ids f no_book n bs.list size in
    let order = swap (λ (b : Book) k. cond (p k) (times k b.colours) 0) bs.list ks in
    let last = sum_le (λ k. bit (nat_lt 0 (pages_of k bs))) (λ k. sum_by (λ (b : Book). cond (p k) (times k b.colours) 0) bs.list) 0 bs.fresh
    (λ k low high. let e = cond_sum (p k) (pages_in k) bs.list in let few = few_alone (pages_of k bs) in omega (arith, e, few)) in
    omega (arith, first, flat, order, last)

-- the exposed pages of a domain have colours that no other page has
pub hidden_alone : (p : ℕ → Bool) (ps : List (Option (List ℕ))) (cs : List ℕ) → length cs ≡ length ps → ((j : ℕ) → j < length ps → is_some (get_or ps j None) ≡ false → p (get_or cs j 0) ≡ true) → count_by (λ x. not (is_some x)) ps ≤ count_by p cs
hidden_alone p [] cs same h = omega arith
hidden_alone p (x ∷ ps) [] same h = absurd (omega arith)
hidden_alone p (x ∷ ps) (c ∷ cs) same h =
    let rest = hidden_alone p ps cs (omega arith) (λ j lt e. h (suc j) (omega arith) e) in
    let one = bits (is_some x) (p c) (λ e. h 0 (omega arith) e) in
    omega (arith, rest, one, sum_by-cons (λ (y : Option (List ℕ)). bit (not (is_some y))) x ps, sum_by-cons (λ (y : ℕ). bit (p y)) c cs)
  where
    bits : (a b : Bool) → (a ≡ false → b ≡ true) → bit (not a) ≤ bit b
    bits true b f = omega arith
    bits false true f = omega arith
    bits false false f = absurd (false≢true (f refl))

-- a sum of multiples
pub sum_times : (k : ℕ) (f : ℕ → ℕ) (ds : List ℕ) → sum_by (λ d. k * f d) ds ≡ k * sum_by f ds
sum_times k f [] = omega arith
sum_times k f (d ∷ ds) =
    let both : k * (f d + sum_by f ds) ≡ k * f d + k * sum_by f ds = grind arith in
    let whole : k * sum_by f (d ∷ ds) ≡ k * (f d + sum_by f ds) = ap (λ n. k * n) (sum_by-cons f d ds) in
    omega (arith, both, whole, sum_times k f ds, sum_by-cons (λ (x : ℕ). k * f x) d ds)
