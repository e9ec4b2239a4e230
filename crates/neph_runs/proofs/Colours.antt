-- How many colours there are on pages, where one book changes.
use Rattle.std.proofs.Common.{◌≡◌, ◌≢◌, ℕ, zero, suc, ◌+◌, ◌<◌, ◌≤◌, Bool, true, false, cond, ◌⊎◌, inl, inr, List, [], ◌∷◌, length, get_or, set, refl, sym, ap, ◌∙◌, arith}
use Rattle.std.specs.Prelude.{◌==◌, nat_lt, count_by}
use Rattle.std.specs.List.{range_with_len}
use Rattle.std.proofs.lemmas.Bool.Decides.{eqb_tells, leb_tells}
use Rattle.std.proofs.lemmas.List.Sums.{sum_by-cons, sum_by-set, get_or-le-sum_by, count_by-le-length}
use Rattle.std.proofs.lemmas.List.FromFn.{length-range_with_len}
use Rattle.neph_model.specs.declared.own.Own.{Own}
use Rattle.neph_model.specs.declared.book.Book.{Book}
use Rattle.neph_model.specs.Books.{Books, no_book, put_book, pages_in, pages_of, colours_used, spares_held, goes_shared, child_colours}

-- one where a test is met, and else none
abbrev pub bit : Bool → ℕ
bit b = cond b 1 0

-- how often a colour is in a list
abbrev pub times : ℕ → List ℕ → ℕ
times c cs = count_by (λ x. x == c) cs

pub times_cons : (c x : ℕ) (xs : List ℕ) → times c (x ∷ xs) ≡ bit (x == c) + times c xs
times_cons c x xs = sum_by-cons (λ (y : ℕ). bit (y == c)) x xs

-- a colour is this one or not
pub bit_cases : (x c : ℕ) → ((x ≡ c) × (bit (x == c) ≡ 1)) ⊎ ((x ≢ c) × (bit (x == c) ≡ 0))
bit_cases x c = elim (eqb_tells x c) [ inl h ↦ inl (h.1, ap bit h.0) | inr h ↦ inr (h.1, ap bit h.0) ]

-- a page with another colour adds none of this one
pub times_set : (c v pfn : ℕ) (cs : List ℕ) → v ≢ c → times c (set cs pfn v) ≤ times c cs
times_set c v pfn [] ne = omega arith
times_set c v zero (x ∷ xs) ne = elim (bit_cases v c) as (λ h. times c (set (x ∷ xs) zero v) ≤ times c (x ∷ xs)) [ inl h ↦ absurd (ne h.0) | inr h ↦ omega (arith, h.1, times_cons c v xs, times_cons c x xs) ]
times_set c v (suc pfn) (x ∷ xs) ne = omega (arith, times_set c v pfn xs ne, times_cons c x (set xs pfn v), times_cons c x xs)

-- a child has an old colour no oftener than its parent
pub times_child : (c fresh : ℕ) (o : Own) (pfn : ℕ) (cs : List ℕ) → c < fresh → times c (child_colours o pfn cs fresh) ≤ times c cs
times_child c fresh o pfn [] lt = omega arith
times_child c fresh o pfn (x ∷ xs) lt =
    elim (goes_shared o pfn) as (λ b. times c (cond b (x ∷ child_colours o (suc pfn) xs fresh) (fresh ∷ child_colours o (suc pfn) xs (fresh + 1))) ≤ times c (x ∷ xs)) [
      | true ↦ omega (arith, times_child c fresh o (suc pfn) xs lt, times_cons c x (child_colours o (suc pfn) xs fresh), times_cons c x xs)
      | false ↦
          elim (bit_cases fresh c) as (λ h. times c (fresh ∷ child_colours o (suc pfn) xs (fresh + 1)) ≤ times c (x ∷ xs)) [
            | inl h ↦ absurd (omega (arith, h.0))
            | inr h ↦ omega (arith, h.1, times_child c (fresh + 1) o (suc pfn) xs (omega arith), times_cons c fresh (child_colours o (suc pfn) xs (fresh + 1)), times_cons c x xs)
          ]
    ]

-- a number of tests over a longer range is met by no more than its length oftener
count_more : (p : ℕ → Bool) (a n k : ℕ) → count_by p (range_with_len a (n + k)) ≤ count_by p (range_with_len a n) + k
count_more p a zero k = omega (arith, count_by-le-length p (range_with_len a (0 + k)), length-range_with_len a (0 + k))
count_more p a (suc n) k =
    let e : suc n + k ≡ suc (n + k) = omega arith in
    rw e (omega (arith, count_more p (a + 1) n k, sum_by-cons (λ (x : ℕ). bit (p x)) a (range_with_len (a + 1) (n + k)), sum_by-cons (λ (x : ℕ). bit (p x)) a (range_with_len (a + 1) n)))

count_least : (p q : ℕ → Bool) (a n : ℕ) → ((c : ℕ) → a ≤ c → c < a + n → p c ≡ true → q c ≡ true) → count_by p (range_with_len a n) ≤ count_by q (range_with_len a n)
count_least p q a zero h = omega arith
count_least p q a (suc n) h =
    let here = bits (p a) (q a) (h a (omega arith) (omega arith)) in
    omega (arith, here, count_least p q (a + 1) n (λ c le lt e. h c (omega arith) (omega arith) e), sum_by-cons (λ (x : ℕ). bit (p x)) a (range_with_len (a + 1) n), sum_by-cons (λ (x : ℕ). bit (q x)) a (range_with_len (a + 1) n))
  where
    bits : (x y : Bool) → (x ≡ true → y ≡ true) → bit x ≤ bit y
    bits true true f = omega arith
    bits true false f = absurd (let e = f refl in cc)
    bits false y f = omega arith

lt_true : (n : ℕ) → 0 < n → nat_lt 0 n ≡ true
lt_true n lt = elim (leb_tells 1 n) [ inl h ↦ h.0 | inr h ↦ absurd (omega (arith, h.1)) ]

true_lt : (n : ℕ) → nat_lt 0 n ≡ true → 0 < n
true_lt n e = elim (leb_tells 1 n) [ inl h ↦ omega (arith, h.1) | inr h ↦ absurd (let x = sym e ∙ h.0 in cc) ]

-- where no old colour comes back, there are no more colours but the new ones
pub colours_grow : (bs new : Books) (k : ℕ) → new.fresh ≡ bs.fresh + k → ((c : ℕ) → c < bs.fresh → 0 < pages_of c new → 0 < pages_of c bs) → colours_used new ≤ colours_used bs + k
colours_grow bs new k is h =
    let p : ℕ → Bool = λ c. nat_lt 0 (pages_of c new) in
    let q : ℕ → Bool = λ c. nat_lt 0 (pages_of c bs) in
    let more = count_more p 0 bs.fresh k in
    let least = count_least p q 0 bs.fresh (λ c le lt e. lt_true (pages_of c bs) (h c (omega arith) (true_lt (pages_of c new) e))) in
    let same = ap (λ n. count_by p (range_with_len 0 n)) is in
    omega (arith, more, least, same)

-- another book of an id changes how many pages have a colour by what it has of it
pub pages_put : (c : ℕ) (bs : Books) (id : ℕ) (b : Book) (fresh : ℕ) → id < length bs.list → pages_of c (record (put_book id b bs) { fresh = fresh }) + times c (get_or bs.list id no_book).colours ≡ pages_of c bs + times c b.colours
pages_put c bs id b fresh lt = sum_by-set (pages_in c) bs.list id b no_book lt

-- a book has no more pages of a colour than there are
pub pages_least : (c : ℕ) (bs : Books) (id : ℕ) → id < length bs.list → times c (get_or bs.list id no_book).colours ≤ pages_of c bs
pages_least c bs id lt = get_or-le-sum_by (pages_in c) bs.list id no_book lt

-- another book of an id changes how many spares are held by its own
pub spares_put : (bs : Books) (id : ℕ) (b : Book) (fresh : ℕ) → id < length bs.list → spares_held (record (put_book id b bs) { fresh = fresh }) + bit (get_or bs.list id no_book).spare ≡ spares_held bs + bit b.spare
spares_put bs id b fresh lt = sum_by-set (λ (x : Book). bit x.spare) bs.list id b no_book lt
