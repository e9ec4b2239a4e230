-- What becomes of the colours' frames as one domain's pages change.
use Rattle.std.proofs.Common.{◌≡◌, ◌≢◌, ℕ, zero, suc, ◌+◌, ◌<◌, ◌≤◌, ◌⊎◌, inl, inr, ◌==◌, List, [], ◌∷◌, length, length-set, map, set, get_or, get_or-set_same, get_or-set_other, refl, sym, ap, ◌∙◌, arith, eq-eqb, ne_eqb, if◌then◌else◌}
use Rattle.std.proofs.lemmas.List.{map-set}
use Rattle.std.proofs.lemmas.List.Sums.{sum_by-set}
use Rattle.neph_model.specs.declared.book.Book.{Book}
use Rattle.neph_model.specs.Books.{Books, pages_in, pages_of, book_at, put_book, no_book}
use Rattle.neph_accounts.specs.Holdings.{times}
use Rattle.neph_accounts.specs.Accounts.{pages_on}
use Rattle.neph_accounts.specs.Colours.{Stands, RowPut}
use Rattle.neph_accounts.proofs.Times.{same_or_not, one_else, times_cons, times_head, times_set}
use Rattle.neph_accounts.proofs.Sums.{any_term}
use Rattle.neph_accounts.proofs.Colours.{pages_on_colour}

-- what maps the numbers of a list alike
pub map_alike : (φ ψ : ℕ → ℕ) (xs : List ℕ) → ((c : ℕ) → 0 < times c xs → ψ c ≡ φ c)
    → map ψ xs ≡ map φ xs
map_alike φ ψ [] h = refl
map_alike φ ψ (x ∷ xs) h = ap (λ (y : ℕ). y ∷ map ψ xs) (h x (times_head x xs))
    ∙ ap (λ (ys : List ℕ). φ x ∷ ys)
    (map_alike φ ψ xs (λ c lt. h c (omega (arith, lt, times_cons c x xs))))

-- a colour of a book is on a page
pub in_book : (bs : Books) (id c : ℕ) → 0 < times c (book_at id bs).colours → 0 < pages_of c bs
in_book bs id c lt = omega (arith, lt, any_term (pages_in c) bs.list id no_book refl)

-- how many pages have a colour behind another book
pub pages_put : (c : ℕ) (bs : Books) (id fresh : ℕ) (b : Book) → id < length bs.list
    → pages_of c (record (put_book id b bs)
    { fresh = fresh }) + times c (book_at id bs).colours ≡ pages_of c bs + times c b.colours
pages_put c bs id fresh b lt = sum_by-set (pages_in c) bs.list id b no_book lt

-- One book changes. Its colours are on pages already, or new ones of frames under no page, each of
-- its own.
module _ (φ ψ : ℕ → ℕ) (rows now : List (List ℕ)) (bs : Books) (id fresh : ℕ) (b : Book)
    (st : Stands φ rows bs) (lt : id < length bs.list) (put : RowPut id (map ψ b.colours) rows now)
    (le : bs.fresh ≤ fresh)
    (alike : (c : ℕ) → 0 < pages_of c bs → ψ c ≡ φ c)
    (known : (c : ℕ) → 0 < times c b.colours
    → (0 < pages_of c bs) ⊎ ((bs.fresh ≤ c) × (c < fresh) × (pages_on rows (ψ c) ≡ 0)))
    (own : (c d : ℕ) → 0 < times c b.colours → 0 < times d b.colours → bs.fresh ≤ c → bs.fresh ≤ d
    → ψ c ≡ ψ d → c ≡ d) where
  abbrev next : Books
  next = record (put_book id b bs) { fresh = fresh }

  abbrev IsNew : ℕ → Type 0
  IsNew c = (0 < times c b.colours) × (bs.fresh ≤ c) × (c < fresh) × (pages_on rows (ψ c) ≡ 0)

  old_or_new : (c : ℕ) → 0 < pages_of c next → (0 < pages_of c bs) ⊎ IsNew c
  old_or_new c some = by (times c b.colours) refl where
    by : (n : ℕ) → times c b.colours ≡ n → (0 < pages_of c bs) ⊎ IsNew c
    by zero e = inl (omega (arith, some, e, pages_put c bs id fresh b lt))
    by (suc n) e = let l : 0 < times c b.colours = omega (arith, e) in
        elim (known c l) [ inl k ↦ inl k | inr k ↦ inr (l, k.0, k.1, k.2) ]

  -- an old colour has another frame than a new one
  not_new : (c d : ℕ) → 0 < pages_of c bs → IsNew d → ψ c ≢ ψ d
  not_new c d some new e = let k = ap (pages_on rows) (sym (alike c some) ∙ e) in
      omega (arith, some, new.3, k, pages_on_colour φ rows bs st c some)

  pub stands_with : Stands ψ now next
  stands_with = record {
    ids = put.ids ∙ st.ids ∙ sym (length-set bs.list id b);
    pages = λ j. elim (same_or_not j id) [
      | inl e ↦ ap (λ (k : ℕ). get_or now k []) e ∙ put.here
          ∙ ap (λ (x : Book). map ψ x.colours)
          (sym (get_or-set_same bs.list id b no_book lt)
          ∙ ap (λ (k : ℕ). get_or (set bs.list id b) k no_book) (sym e))
      | inr n ↦
          put.others j n ∙ st.pages j
          ∙ sym (map_alike φ ψ (book_at j bs).colours (λ c l. alike c (in_book bs j c l)))
          ∙ ap (λ (x : Book). map ψ x.colours) (sym (get_or-set_other bs.list id j b no_book n))
    ];
    small = λ c some. elim
        (old_or_new c some) [ inl k ↦ (let l = st.small c k in omega arith) | inr k ↦ k.2 ];
    apart = λ c d some more e. elim (old_or_new c some) [
      | inl a ↦ elim
          (old_or_new d more) [
            | inl k ↦ st.apart c d a k (sym (alike c a) ∙ e
                ∙ alike d k)
            | inr k ↦ absurd (not_new c d a k e)
          ]
      | inr a ↦ elim
          (old_or_new d more) [
            | inl k ↦ absurd
                (not_new d c k a (sym e))
            | inr k ↦ own c d a.0 k.0 a.1 k.1 e
          ]
    ];
  }

module _ (φ : ℕ → ℕ) (rows now : List (List ℕ)) (bs : Books) (id : ℕ) (b : Book)
    (st : Stands φ rows bs) (lt : id < length bs.list) where
  -- one book changes, and has no colour that no page had
  pub stands_put : (fresh : ℕ) → bs.fresh ≤ fresh → RowPut id (map φ b.colours) rows now
      → ((c : ℕ) → 0 < times c b.colours → 0 < pages_of c bs)
      → Stands φ now (record (put_book id b bs) { fresh = fresh })
  stands_put fresh le put known =
      stands_with φ φ rows now bs id fresh b st lt put le (λ c l. refl) (λ c l. inl (known c l))
      (λ c d l m lc ld e. st.apart c d (known c l) (known d m) e)

  -- the end of a domain
  pub stands_ended : b.colours ≡ [] → RowPut id [] rows now → Stands φ now (put_book id b bs)
  stands_ended none put =
      stands_put bs.fresh (omega arith)
      (record { ids = put.ids; here = put.here ∙ ap (map φ) (sym none); others = put.others })
      (λ c l. let z : times c b.colours ≡ 0 = ap (times c) none in absurd (omega (arith, l, z)))

-- no page changes
pub stands_same : (φ : ℕ → ℕ) (rows : List (List ℕ)) (bs : Books) (id fresh : ℕ) (b : Book)
    → Stands φ rows bs → id < length bs.list → bs.fresh ≤ fresh
    → b.colours ≡ (book_at id bs).colours
    → Stands φ rows (record (put_book id b bs) { fresh = fresh })
stands_same φ rows bs id fresh b st lt le same =
    stands_put φ rows rows bs id b st lt fresh le
    (record { ids = refl; here = st.pages id ∙ ap (map φ) (sym same); others = λ j n. refl })
    (λ c l. in_book bs id c (let k = ap (times c) same in omega (arith, l, k)))

-- the frames of the colours, with one colour on another frame
abbrev pub with_colour : ℕ → ℕ → (ℕ → ℕ) → ℕ → ℕ
with_colour c f φ d = if d == c then f else φ d

pub colour_here : (c f : ℕ) (φ : ℕ → ℕ) → with_colour c f φ c ≡ f
colour_here c f φ = rw (eq-eqb c c refl) refl

pub colour_else : (c f : ℕ) (φ : ℕ → ℕ) (d : ℕ) → d ≢ c → with_colour c f φ d ≡ φ d
colour_else c f φ d n = rw (ne_eqb d c n) refl

-- A page moves to a frame under no page, and gets the fresh colour.
module _ (φ : ℕ → ℕ) (rows now : List (List ℕ)) (bs : Books) (id pfn f : ℕ) (b : Book)
    (st : Stands φ rows bs) (lt : id < length bs.list) (fit : pfn < length (book_at id bs).colours)
    (put : RowPut id (set (get_or rows id []) pfn f) rows now) (none : pages_on rows f ≡ 0)
    (same : b.colours ≡ set (book_at id bs).colours pfn bs.fresh) where
  abbrev new : ℕ
  new = bs.fresh

  abbrev ψ : ℕ → ℕ
  ψ = with_colour new f φ

  alike : (c : ℕ) → 0 < pages_of c bs → ψ c ≡ φ c
  alike c some = colour_else new f φ c (λ e. let l = st.small c some in omega (arith, e, l))

  row : set (get_or rows id []) pfn f ≡ map ψ b.colours
  row =
      let cs = (book_at id bs).colours in
      ap (λ (xs : List ℕ). set xs pfn f)
      (st.pages id ∙ sym (map_alike φ ψ cs (λ c l. alike c (in_book bs id c l))))
      ∙ ap (λ (x : ℕ). set (map ψ cs) pfn x) (sym (colour_here new f φ))
      ∙ sym (map-set ψ cs pfn new) ∙ ap (map ψ) (sym same)

  old_or_fresh : (c : ℕ) → 0 < times c b.colours → (0 < pages_of c bs) ⊎ (c ≡ new)
  old_or_fresh c l = elim (same_or_not c new) [
    | inl e ↦ inr e
    | inr n ↦ inl
        (in_book bs id c (let k = ap (times c) same in
        omega (
          arith,
          l,
          k,
          times_set c (book_at id bs).colours pfn new fit,
          one_else new c (λ e. n (sym e)),
        )))
  ]

  pub stands_copied : Stands (with_colour bs.fresh f φ) now (record (put_book id b bs)
      { fresh = bs.fresh + 1 })
  stands_copied =
      stands_with φ ψ rows now bs id (new + 1) b st lt
      (record { ids = put.ids; here = put.here ∙ row; others = put.others }) (omega arith) alike
      (λ c l. elim
      (old_or_fresh c l) [
        | inl k ↦ inl k
        | inr e ↦ inr (
          omega (arith, e),
          omega (arith, e),
          ap (pages_on rows) (ap ψ e ∙ colour_here new f φ) ∙ none,
        )
      ])
      (λ c d l m lc ld e. elim (old_or_fresh c l) [
        | inl k ↦ absurd (let s = st.small c k in omega (arith, lc, s))
        | inr e ↦ elim
            (old_or_fresh d m) [
              | inl k ↦ absurd (let s = st.small d k in
                  omega (arith, ld, s))
              | inr q ↦ e ∙ sym q
            ]
      ])
