-- The colours at the start stand for the frames: all pages lie in different ones.
use Rattle.std.proofs.Common.{◌≡◌, ℕ, zero, suc, ◌+◌, ◌-◌, ◌<◌, ◌≤◌, inl, inr, List, [], ◌∷◌, ◌++◌, length, length-append, append_assoc, map, replicate, get_or, refl, sym, ap, ◌∙◌, subst, arith}
use Rattle.std.specs.List.{sum_by, range_with_len, concat}
use Rattle.std.proofs.lemmas.List.Sums.{sum_by-cons}
use Rattle.std.proofs.lemmas.List.{get_or-append-add}
use Rattle.std.proofs.lemmas.List.FromFn.{length-range_with_len}
use Rattle.std.proofs.lemmas.Bool.Decides.{leb_tells}
use Rattle.neph_model.specs.declared.script.Start.{Start}
use Rattle.neph_model.specs.declared.book.Book.{Book}
use Rattle.neph_model.specs.Books.{pages_in, pages_of, book_at, book_of, no_book, start_books, page_count, opening_books}
use Rattle.neph_accounts.specs.Holdings.{times}
use Rattle.neph_accounts.specs.Accounts.{pages_on}
use Rattle.neph_accounts.specs.Colours.{Stands}
use Rattle.neph_accounts.proofs.Times.{times_both, times_past, once_apart}

-- each book has the next colours from this one on
abbrev InOrder : ℕ → List Book → Type 0
InOrder k [] = Unit {0}
InOrder k (b ∷ bs) =
    (b.colours ≡ range_with_len k (length b.colours)) × InOrder (k + length b.colours) bs

-- how many pages the books have
abbrev pages_all : List Book → ℕ
pages_all bs = sum_by (λ (b : Book). length b.colours) bs

none_in_order : (k n : ℕ) → InOrder k (replicate n no_book)
none_in_order k zero = tt
none_in_order k (suc n) = (refl, none_in_order (k + 0) n)

start_in_order : (k n : ℕ) (ts : List Start) → InOrder k (start_books k ts ++ replicate n no_book)
start_in_order k n [] = none_in_order k n
start_in_order k n (t ∷ ts) =
    let e : length (range_with_len k t.pages) ≡ t.pages = length-range_with_len k t.pages in
    let next : k + length (range_with_len k t.pages) ≡ k + t.pages = omega (arith, e) in (
      ap (range_with_len k) (sym e),
      subst (λ (m : ℕ). InOrder m (start_books (k + t.pages) ts ++ replicate n no_book))
          (sym next) (start_in_order (k + t.pages) n ts),
    )

no_pages : (n : ℕ) → pages_all (replicate n no_book) ≡ 0
no_pages zero = refl
no_pages (suc n) =
    omega (
      arith,
      no_pages n,
      sum_by-cons (λ (b : Book). length b.colours) no_book (replicate n no_book),
    )

start_pages : (k n : ℕ) (ts : List Start)
    → pages_all (start_books k ts ++ replicate n no_book) ≡ page_count ts
start_pages k n [] = no_pages n
start_pages k n (t ∷ ts) =
    omega (
      arith,
      start_pages (k + t.pages) n ts,
      length-range_with_len k t.pages,
      sum_by-cons (λ (b : Book). length b.colours) (book_of (range_with_len k t.pages))
          (start_books (k + t.pages) ts ++ replicate n no_book),
      sum_by-cons (λ (s : Start). s.pages) t ts,
    )

range_two : (k m n : ℕ) → range_with_len k (m + n) ≡ range_with_len k m ++ range_with_len (k + m) n
range_two k zero n = let a : 0 + n ≡ n = omega arith in let b : k + 0 ≡ k = omega arith in
    ap (range_with_len k) a ∙ ap (λ (j : ℕ). range_with_len j n) (sym b)
range_two k (suc m) n =
    let a : suc m + n ≡ suc (m + n) = omega arith in
    let b : k + 1 + m ≡ k + suc m = omega arith in
    ap (range_with_len k) a
    ∙ ap (λ (xs : List ℕ). k ∷ xs)
    (range_two (k + 1) m n ∙ ap (λ (j : ℕ). range_with_len (k + 1) m ++ range_with_len j n) b)

-- each colour from this one on is on one page
order_pages : (c k : ℕ) (bs : List Book) → InOrder k bs
    → sum_by (pages_in c) bs ≡ times c (range_with_len k (pages_all bs))
order_pages c k [] h = refl
order_pages c k (b ∷ bs) h =
    let n : ℕ = length b.colours in
    let all : pages_all (b ∷ bs) ≡ n + pages_all bs =
    sum_by-cons (λ (x : Book). length x.colours) b bs in
    let one : pages_in c b ≡ times c (range_with_len k n) = ap (times c) h.0 in
    let two : times c (range_with_len k (pages_all (b ∷ bs))) ≡ times c
    (range_with_len k n) + times c (range_with_len (k + n) (pages_all bs)) =
    ap (λ (m : ℕ). times c (range_with_len k m)) all
    ∙ ap (times c) (range_two k n (pages_all bs))
    ∙ times_both c (range_with_len k n) (range_with_len (k + n) (pages_all bs)) in
    omega (arith, one, two, order_pages c (k + n) bs h.1, sum_by-cons (pages_in c) b bs)

-- a list, read out of a longer one
read_back : (ws pre xs post : List ℕ) → ws ≡ pre ++ (xs ++ post)
    → map (λ c. get_or ws c 0) (range_with_len (length pre) (length xs)) ≡ xs
read_back ws pre [] post e = refl
read_back ws pre (x ∷ xs) post e =
    let one : List ℕ = x ∷ [] in
    let z : length pre ≡ length pre + 0 = omega arith in
    let there : get_or (pre ++ x ∷ (xs ++ post)) (length pre + 0) 0 ≡ x =
    get_or-append-add pre (x ∷ (xs ++ post)) 0 0 in
    let here : get_or ws (length pre) 0 ≡ x = ap (λ (ys : List ℕ). get_or ys (length pre) 0) e
    ∙ ap (λ (n : ℕ). get_or (pre ++ x ∷ (xs ++ post)) n 0) z ∙ there in
    let next : length pre + 1 ≡ length (pre ++ one) = omega (arith, length-append pre one) in
    let rest = read_back ws (pre ++ one) xs post (e ∙ sym (append_assoc pre one (xs ++ post))) in
    ap (λ (y : ℕ). y ∷ map (λ c. get_or ws c 0) (range_with_len (length pre + 1) (length xs))) here
    ∙ ap (λ (n : ℕ). x ∷ map (λ c. get_or ws c 0) (range_with_len n (length xs))) next
    ∙ ap (λ (ys : List ℕ). x ∷ ys) rest

-- each row is what its book's colours stand for
order_rows : (ws pre : List ℕ) (xs : List (List ℕ)) (bs : List Book) → ws ≡ pre ++ concat xs
    → InOrder (length pre) bs
    → ((i : ℕ) → length (get_or xs i []) ≡ length (get_or bs i no_book).colours)
    → length xs ≡ length bs
    → (i : ℕ) → get_or xs i [] ≡ map (λ c. get_or ws c 0) (get_or bs i no_book).colours
order_rows ws pre [] [] e h same long i = refl
order_rows ws pre [] (b ∷ bs) e h same long i = absurd (omega (arith, long))
order_rows ws pre (x ∷ xs) [] e h same long i = absurd (omega (arith, long))
order_rows ws pre (x ∷ xs) (b ∷ bs) e h same long zero =
    let n : length x ≡ length b.colours = same zero in
    sym (read_back ws pre x (concat xs) e)
    ∙ ap (λ (k : ℕ). map (λ c. get_or ws c 0) (range_with_len (length pre) k)) n
    ∙ ap (map (λ c. get_or ws c 0)) (sym h.0)
order_rows ws pre (x ∷ xs) (b ∷ bs) e h same long (suc i) =
    let n : length x ≡ length b.colours = same zero in
    let next : length pre + length b.colours ≡ length (pre ++ x) =
    omega (arith, n, length-append pre x) in
    order_rows ws (pre ++ x) xs bs (e ∙ sym (append_assoc pre x (concat xs)))
    (subst (λ (k : ℕ). InOrder k bs) next h.1) (λ j. same (suc j)) (omega (arith, long)) i

all_in : (rows : List (List ℕ)) (f : ℕ) → times f (concat rows) ≡ pages_on rows f
all_in [] f = refl
all_in (x ∷ xs) f =
    omega (arith, all_in xs f, times_both f x (concat xs), sum_by-cons (times f) x xs)

long_in : (rows : List (List ℕ)) (bs : List Book)
    → ((i : ℕ) → length (get_or rows i []) ≡ length (get_or bs i no_book).colours)
    → length rows ≡ length bs → length (concat rows) ≡ pages_all bs
long_in [] [] same long = refl
long_in [] (b ∷ bs) same long = absurd (omega (arith, long))
long_in (x ∷ xs) [] same long = absurd (omega (arith, long))
long_in (x ∷ xs) (b ∷ bs) same long = let n : length x ≡ length b.colours = same zero in
    omega (
      arith,
      n,
      long_in xs bs (λ j. same (suc j)) (omega (arith, long)),
      length-append x (concat xs),
      sum_by-cons (λ (y : Book). length y.colours) b bs,
    )

-- the colours of the opening books stand for the frames of the first pages, where no two pages are
-- in one
pub stands_opening : (ts : List Start) (rows : List (List ℕ))
    → length rows ≡ length (opening_books ts).list
    → ((id : ℕ) → length (get_or rows id []) ≡ length (book_at id (opening_books ts)).colours)
    → ((f : ℕ) → pages_on rows f ≤ 1)
    → Stands (λ c. get_or (concat rows) c 0) rows (opening_books ts)
stands_opening ts rows ids same once =
    let bs = opening_books ts in
    let n : ℕ = 63 - length ts in
    let order : InOrder 0 bs.list = (
      refl,
      (let z : 0 ≡ 0 + 0 = omega arith in
          subst (λ (m : ℕ). InOrder m (start_books 0 ts ++ replicate n no_book)) z
          (start_in_order 0 n ts)),
    ) in
    let all : pages_all bs.list ≡ bs.fresh =
    omega (
      arith,
      start_pages 0 n ts,
      sum_by-cons (λ (b : Book). length b.colours) no_book
          (start_books 0 ts ++ replicate n no_book),
    ) in
    let small : (c : ℕ) → 0 < pages_of c bs → c < bs.fresh =
    λ c some. elim (leb_tells (suc c) bs.fresh) [
      | inl h ↦ (let l = h.1 in omega (arith, l))
      | inr h ↦ absurd (let l = h.1 in
          omega (
            arith,
            some,
            order_pages c 0 bs.list order,
            times_past c 0 (pages_all bs.list)
                (omega (arith, l, all)),
          ))
    ] in
    let wide : (c : ℕ) → 0 < pages_of c bs → c < length (concat rows) = λ c some. let l =
    small c some in omega (arith, l, all, long_in rows bs.list same ids) in
    record {
      ids = ids;
      pages = order_rows (concat rows) [] rows bs.list refl order same ids;
      small = small;
      apart = λ c d some more e. once_apart (concat rows) c d (λ f. let k = once f in
          omega (arith, k, all_in rows f)) (wide c some) (wide d more) e;
    }
