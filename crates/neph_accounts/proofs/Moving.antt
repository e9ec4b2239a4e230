-- A page moves to a frame under no page and keeps its colour, which no other page has.
use Rattle.std.proofs.Common.{◌≡◌, ◌≢◌, ℕ, zero, suc, ◌+◌, ◌<◌, ◌≤◌, inl, inr, Bool, true, false, nat_lt, List, [], ◌∷◌, length, map, set, get_or, refl, sym, ap, ◌∙◌, arith, ltb-true, ltb-false}
use Rattle.neph_base.specs.declared.reply.Reply.{Reply}
use Rattle.neph_base.specs.declared.reply.Reply.TheVariants.{Ended}
use Rattle.neph_model.specs.declared.own.Own.{Own}
use Rattle.neph_model.specs.declared.book.Book.{Book}
use Rattle.neph_model.specs.declared.book.Spends.TheVariants.{Nothing}
use Rattle.neph_model.specs.Books.{Books, pages_in, pages_of, book_at, no_book}
use Rattle.neph_model.specs.Turns.{books_after}
use Rattle.neph_accounts.specs.Holdings.{times}
use Rattle.neph_accounts.specs.Accounts.{pages_on}
use Rattle.neph_accounts.specs.Colours.{Stands, RowPut}
use Rattle.neph_accounts.proofs.Times.{same_or_not, one_self, one_at, times_cons, times_in}
use Rattle.neph_accounts.proofs.Sums.{any_term, two_terms}
use Rattle.neph_accounts.proofs.Recolouring.{map_alike, with_colour, colour_here, colour_else}
use Rattle.neph_accounts.proofs.Sharing.{not_under}
use Rattle.neph_accounts.proofs.Turns.{stands_line}

-- a colour that isn't in a list
not_among : (c d : ℕ) (xs : List ℕ) → times c xs ≡ 0 → 0 < times d xs → d ≢ c
not_among c d xs none some e = let k : times d xs ≡ times c xs = ap (λ (y : ℕ). times y xs) e in
    omega (arith, none, some, k)

-- the frames of some colours, one of which stands on another frame, and is there once
moved_row : (φ : ℕ → ℕ) (c f : ℕ) (cs : List ℕ) (pfn : ℕ) → pfn < length cs → get_or cs pfn 0 ≡ c
    → times c cs ≤ 1 → set (map φ cs) pfn f ≡ map (with_colour c f φ) cs
moved_row φ c f [] pfn lt at once = absurd (omega arith)
moved_row φ c f (x ∷ xs) zero lt at once =
    let o : one_at x c ≡ 1 = ap (λ (y : ℕ). one_at y c) at ∙ one_self c in
    let none : times c xs ≡ 0 = omega (arith, once, o, times_cons c x xs) in
    let rest = map_alike φ (with_colour c f φ) xs
    (λ d some. colour_else c f φ d (not_among c d xs none some)) in
    ap (λ (y : ℕ). y ∷ map φ xs) (sym (ap (with_colour c f φ) at ∙ colour_here c f φ))
    ∙ ap (λ (ys : List ℕ). with_colour c f φ x ∷ ys) (sym rest)
moved_row φ c f (x ∷ xs) (suc pfn) lt at once =
    let there = times_in xs pfn (omega arith) in
    let same : times (get_or xs pfn 0) xs ≡ times c xs = ap (λ (y : ℕ). times y xs) at in
    let ne : x ≢ c = λ e. let o : one_at x c ≡ 1 = ap (λ (y : ℕ). one_at y c) e ∙ one_self c in
    omega (arith, o, there, same, once, times_cons c x xs) in
    let rest = moved_row φ c f xs pfn (omega arith) at (omega (arith, once, times_cons c x xs)) in
    ap (λ (y : ℕ). y ∷ set (map φ xs) pfn f) (sym (colour_else c f φ x ne))
    ∙ ap (λ (ys : List ℕ). with_colour c f φ x ∷ ys) rest

past_end : {A : Type 0} (xs : List A) (i : ℕ) (d : A) → length xs ≤ i → get_or xs i d ≡ d
past_end [] i d le = refl
past_end (x ∷ xs) zero d le = absurd (omega arith)
past_end (x ∷ xs) (suc i) d le = past_end xs i d (omega arith)

module _ (φ : ℕ → ℕ) (rows now : List (List ℕ)) (bs : Books) (id pfn f : ℕ) (st : Stands φ rows bs)
    (lt : id < length bs.list) (fit : pfn < length (book_at id bs).colours)
    (put : RowPut id (set (get_or rows id []) pfn f) rows now) (none : pages_on rows f ≡ 0)
    (one : pages_of (get_or (book_at id bs).colours pfn 0) bs ≡ 1) where
  abbrev colours : List ℕ
  colours = (book_at id bs).colours

  abbrev c : ℕ
  c = get_or colours pfn 0

  abbrev ψ : ℕ → ℕ
  ψ = with_colour c f φ

  once : times c colours ≤ 1
  once = omega (arith, one, any_term (pages_in c) bs.list id no_book refl)

  -- no page of another domain has the colour
  elsewhere : (j : ℕ) → j ≢ id → times c (book_at j bs).colours ≡ 0
  elsewhere j ne = by (nat_lt j (length bs.list)) refl where
    by : (b : Bool) → nat_lt j (length bs.list) ≡ b → times c (book_at j bs).colours ≡ 0
    by true e = omega (
      arith,
      one,
      times_in colours pfn fit,
      two_terms (pages_in c) bs.list id j no_book lt (ltb-true j (length bs.list) e) (λ s. ne (sym s)),
    )
    by false e = ap (λ (b : Book). times c b.colours)
        (past_end bs.list j no_book (ltb-false j (length bs.list) e))

  apart_at : (a d : ℕ) → 0 < pages_of a bs → 0 < pages_of d bs → ψ a ≡ ψ d → a ≡ d
  apart_at a d some more e = elim (same_or_not a c) [
    | inl p ↦ elim (same_or_not d c) [
      | inl q ↦ p ∙ sym q
      | inr n ↦ absurd (not_under φ rows bs f st none d more
          (sym (colour_else c f φ d n) ∙ sym e ∙ ap ψ p ∙ colour_here c f φ))
    ]
    | inr m ↦ elim (same_or_not d c) [
      | inl q ↦ absurd (not_under φ rows bs f st none a some
          (sym (colour_else c f φ a m) ∙ e ∙ ap ψ q ∙ colour_here c f φ))
      | inr n ↦ st.apart a d some more (sym (colour_else c f φ a m) ∙ e ∙ colour_else c f φ d n)
    ]
  ]

  pub stands_moved : Stands (with_colour (get_or (book_at id bs).colours pfn 0) f φ) now bs
  stands_moved = record {
    ids = put.ids ∙ st.ids;
    pages = λ j. elim (same_or_not j id) [
      | inl e ↦ ap (λ (k : ℕ). get_or now k []) e ∙ put.here
          ∙ ap (λ (xs : List ℕ). set xs pfn f) (st.pages id)
          ∙ moved_row φ c f colours pfn fit refl once
          ∙ ap (λ (k : ℕ). map ψ (book_at k bs).colours) (sym e)
      | inr n ↦ put.others j n ∙ st.pages j
          ∙ sym (map_alike φ ψ (book_at j bs).colours
          (λ d some. colour_else c f φ d (not_among c d (book_at j bs).colours (elsewhere j n) some)))
    ];
    small = st.small;
    apart = apart_at;
  }

  -- a line that moves the page, and is no end
  pub stands_move : (o : Own) (answer : Reply) → answer ≢ Ended
      → Stands (with_colour (get_or (book_at id bs).colours pfn 0) f φ) now
      (books_after id o Nothing answer bs)
  stands_move o answer n = stands_line ψ now bs id o Nothing answer stands_moved lt tt n
