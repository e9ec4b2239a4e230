-- As many pages stand on a frame as have its colour, and there are as many frames under pages as
-- colours on them.
use Rattle.std.proofs.Common.{◌≡◌, ℕ, zero, suc, ◌<◌, List, [], ◌∷◌, length, map, get_or, refl, sym, ap, ◌∙◌, arith}
use Rattle.std.specs.List.{concat}
use Rattle.std.proofs.lemmas.List.{length-map, get_or_default}
use Rattle.std.proofs.Math.ListN.{get_or-map}
use Rattle.neph_model.specs.declared.book.Book.{Book}
use Rattle.neph_model.specs.Books.{Books, pages_in, pages_of, colours_used, book_at, no_book}
use Rattle.neph_accounts.specs.Holdings.{times}
use Rattle.neph_accounts.specs.Places.{frames_with}
use Rattle.neph_accounts.specs.Accounts.{pages_on}
use Rattle.neph_accounts.specs.Colours.{Stands}
use Rattle.neph_accounts.proofs.Times.{times_in}
use Rattle.neph_accounts.proofs.Sums.{times_concat, one_term}
use Rattle.neph_accounts.proofs.Distinct.{IsApartAt, times_map, kinds_map, concat_map, same_kinds}

are_used : (bs : Books) → frames_with bs.fresh (λ c. pages_of c bs) ≡ colours_used bs
unfolding frames_with
are_used bs = refl

-- two lists of rows with the same rows
pub by_places : (xs ys : List (List ℕ)) → length xs ≡ length ys
    → ((i : ℕ) → get_or xs i [] ≡ get_or ys i []) → xs ≡ ys
by_places [] [] e h = refl
by_places [] (y ∷ ys) e h = absurd (omega (arith, e))
by_places (x ∷ xs) [] e h = absurd (omega (arith, e))
by_places (x ∷ xs) (y ∷ ys) e h = ap (λ (z : List ℕ). z ∷ xs) (h zero)
    ∙ ap (λ (zs : List (List ℕ)). y ∷ zs) (by_places xs ys (omega (arith, e)) (λ i. h (suc i)))

module _ (φ : ℕ → ℕ) (rows : List (List ℕ)) (bs : Books) (st : Stands φ rows bs) where
  -- the rows of the books
  rows_are : rows ≡ map (λ (b : Book). map φ b.colours) bs.list
  rows_are =
      by_places rows (map (λ (b : Book). map φ b.colours) bs.list)
      (st.ids ∙ sym (length-map bs.list (λ (b : Book). map φ b.colours)))
      (λ id. st.pages id ∙ sym (get_or-map (λ (b : Book). map φ b.colours) bs.list id no_book))

  pub row_long : (id : ℕ) → length (get_or rows id []) ≡ length (book_at id bs).colours
  row_long id = ap (λ (xs : List ℕ). length xs) (st.pages id) ∙ length-map (book_at id bs).colours φ

  -- a page stands on the frame of its colour
  pub page_is : (id pfn : ℕ) → pfn < length (get_or rows id [])
      → get_or (get_or rows id []) pfn 0 ≡ φ (get_or (book_at id bs).colours pfn 0)
  page_is id pfn lt = get_or_default (get_or rows id []) pfn 0 (φ 0) lt
      ∙ ap (λ (xs : List ℕ). get_or xs pfn (φ 0)) (st.pages id)
      ∙ get_or-map φ (book_at id bs).colours pfn 0

  -- its colour is on a page
  pub page_used : (id pfn : ℕ) → id < length rows → pfn < length (get_or rows id [])
      → 0 < pages_of (get_or (book_at id bs).colours pfn 0) bs
  page_used id pfn ids lt =
      let cs = (book_at id bs).colours in
      omega (
        arith,
        times_in cs pfn (omega (arith, lt, row_long id)),
        one_term (pages_in (get_or cs pfn 0)) bs.list id no_book (omega (arith, ids, st.ids)),
      )

  -- the colours of all pages
  abbrev colours : List ℕ
  colours = concat (map (λ (b : Book). b.colours) bs.list)

  of_colour : (c : ℕ) → times c colours ≡ pages_of c bs
  of_colour c = times_concat (λ (b : Book). b.colours) bs.list c

  same_rows : (xs : List (List ℕ)) → map (λ x. x) xs ≡ xs
  same_rows [] = refl
  same_rows (x ∷ xs) = ap (λ (ys : List (List ℕ)). x ∷ ys) (same_rows xs)

  on_frame : (f : ℕ) → times f (map φ colours) ≡ pages_on rows f
  on_frame f =
      ap (times f)
      (sym (concat_map φ (λ (b : Book). b.colours) bs.list) ∙ ap concat (sym rows_are)
      ∙ ap concat (sym (same_rows rows)))
      ∙ times_concat (λ (x : List ℕ). x) rows f

  apart_at : (c : ℕ) → 0 < pages_of c bs → IsApartAt φ c colours
  apart_at c lt d l e = st.apart d c (rw of_colour at l) lt e

  -- as many pages stand on the frame of a colour as have the colour
  pub pages_on_colour : (c : ℕ) → 0 < pages_of c bs → pages_on rows (φ c) ≡ pages_of c bs
  pages_on_colour c lt = sym (on_frame (φ c)) ∙ times_map φ c colours (apart_at c lt) ∙ of_colour c

  -- frames under pages and colours on pages are as many
  pub frames_used : (n : ℕ) → ((f : ℕ) → 0 < pages_on rows f → f < n)
      → frames_with n (pages_on rows) ≡ colours_used bs
  frames_used n small =
      let all = kinds_map φ bs.fresh n colours
      (λ c lt. st.small c (rw of_colour at lt)) (λ f lt. small f (rw on_frame at lt))
      (λ c lt. apart_at c (rw of_colour at lt)) in
      sym (same_kinds n (λ f. times f (map φ colours)) (pages_on rows) on_frame) ∙ all
      ∙ same_kinds bs.fresh (λ c. times c colours) (λ c. pages_of c bs) of_colour ∙ are_used bs
