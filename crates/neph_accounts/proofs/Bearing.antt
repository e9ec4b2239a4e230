-- The colours of a child's pages stand for its parent's frames and for new ones.
use Rattle.std.proofs.Common.{◌≡◌, ◌≢◌, ℕ, suc, ◌+◌, ◌-◌, ◌<◌, ◌≤◌, ◌⊎◌, inl, inr, Bool, true, false, nat_lt, List, [], ◌∷◌, length, length-set, map, get_or, get_or-set_other, refl, sym, ap, ◌∙◌, arith, if◌then◌else◌}
use Rattle.std.proofs.lemmas.Bool.{lt-ltb}
use Rattle.std.proofs.lemmas.Bool.Decides.{leb_tells}
use Rattle.neph_base.specs.declared.reply.Reply.TheVariants.{Child}
use Rattle.neph_model.specs.declared.own.Own.{Own}
use Rattle.neph_model.specs.declared.book.Book.{Book}
use Rattle.neph_model.specs.declared.book.Stage.TheVariants.{Ready}
use Rattle.neph_model.specs.Books.{Books, book_at, book_of, no_book, goes_shared, child_colours, new_count, books_born}
use Rattle.neph_model.specs.Turns.{books_committed}
use Rattle.neph_accounts.specs.Holdings.{times}
use Rattle.neph_accounts.specs.Accounts.{pages_on}
use Rattle.neph_accounts.specs.Colours.{Stands, RowPut, new_frames, IsChildRow}
use Rattle.neph_accounts.proofs.Times.{one_at, one_self, one_else, same_or_not, times_cons, times_in, once_apart}
use Rattle.neph_accounts.proofs.Colours.{page_is, row_long}
use Rattle.neph_accounts.proofs.Recolouring.{in_book, stands_with, stands_same}

-- the frames of the colours, where the colours from this one on stand for these
abbrev pub with_new : ℕ → List ℕ → (ℕ → ℕ) → ℕ → ℕ
with_new low news φ c = if nat_lt c low then φ c else get_or news (c - low) 0

pub new_else : (low : ℕ) (news : List ℕ) (φ : ℕ → ℕ) (c : ℕ) → c < low → with_new low news φ c ≡ φ c
new_else low news φ c lt = let e = lt-ltb c low lt in rw e refl

new_here : (low : ℕ) (news : List ℕ) (φ : ℕ → ℕ) (c : ℕ) → low ≤ c
    → with_new low news φ c ≡ get_or news (c - low) 0
new_here low news φ c le = elim (leb_tells (suc c) low) [
  | inl h ↦ absurd (let l = h.1 in omega (arith, l))
  | inr h ↦ ap (λ (b : Bool). if b then φ c else get_or news (c - low) 0) h.0
]

-- as many pages get new frames as new colours
news_long : (o : Own) (pfn : ℕ) (cs fs : List ℕ) → length fs ≡ length cs
    → length (new_frames o pfn fs) ≡ new_count o pfn cs
news_long o pfn [] [] e = refl
news_long o pfn [] (f ∷ fs) e = absurd (omega (arith, e))
news_long o pfn (c ∷ cs) [] e = absurd (omega (arith, e))
news_long o pfn (c ∷ cs) (f ∷ fs) e =
    by (goes_shared o pfn) (news_long o (suc pfn) cs fs (omega (arith, e))) where
      by : (b : Bool) → length (new_frames o (suc pfn) fs) ≡ new_count o (suc pfn) cs
          → length (if b then new_frames o (suc pfn) fs else f ∷ new_frames o (suc pfn) fs) ≡
          (if b then new_count o (suc pfn) cs else 1 + new_count o (suc pfn) cs)
      by true k = k
      by false k = omega (arith, k)

-- a child's colour is one of its parent's, or a new one
child_cases : (o : Own) (pfn : ℕ) (cs : List ℕ) (at c : ℕ)
    → 0 < times c (child_colours o pfn cs at)
    → (0 < times c cs) ⊎ ((at ≤ c) × (c < at + new_count o pfn cs))
child_cases o pfn [] at c lt = absurd (omega arith)
child_cases o pfn (x ∷ xs) at c lt =
    by (goes_shared o pfn) (λ n. child_cases o (suc pfn) xs n c) lt where
      by : (b : Bool)
          → ((n : ℕ) → 0 < times c (child_colours o (suc pfn) xs n)
          → (0 < times c xs) ⊎ ((n ≤ c) × (c < n + new_count o (suc pfn) xs)))
          → 0 < times c
          (if b then x ∷ child_colours o (suc pfn) xs at else at ∷ child_colours o (suc pfn) xs
          (at + 1))
          → (0 < times c (x ∷ xs))
          ⊎ ((at ≤ c)
          × (c < at + (if b then new_count o (suc pfn) xs else 1 + new_count o (suc pfn) xs)))
      by true go l = elim (same_or_not x c) [
        | inl e ↦ inl (let k = ap (λ (y : ℕ). one_at y c) e in
            omega (arith, k, one_self c, times_cons c x xs))
        | inr n ↦ elim
            (go at (omega (
              arith,
              l,
              one_else x c n,
              times_cons c x (child_colours o (suc pfn) xs at),
            ))) [
              | inl k ↦ inl (omega (arith, k, times_cons c x xs))
              | inr k ↦ inr (k.0, k.1)
            ]
      ]
      by false go l = elim (same_or_not at c) [
        | inl e ↦ inr (omega (arith, e), omega (arith, e))
        | inr n ↦ elim (go (at + 1)
            (omega (
              arith,
              l,
              one_else at c n,
              times_cons c at (child_colours o (suc pfn) xs (at + 1)),
            ))) [
              | inl k ↦ inl (omega (arith, k, times_cons c x xs))
              | inr k ↦ inr (omega (arith, k.0), omega (arith, k.1))
            ]
      ]

-- the child's pages stand on the frames of its colours
child_row : (φ : ℕ → ℕ) (o : Own) (low : ℕ) (news : List ℕ) (pfn at : ℕ) (cs fs : List ℕ)
    → low ≤ at → ((c : ℕ) → 0 < times c cs → c < low) → length fs ≡ length cs
    → ((i : ℕ) → i < length cs → goes_shared o (pfn + i) ≡ true
    → get_or fs i 0 ≡ φ (get_or cs i 0))
    → ((k : ℕ) → get_or news (at - low + k) 0 ≡ get_or (new_frames o pfn fs) k 0)
    → map (with_new low news φ) (child_colours o pfn cs at) ≡ fs
child_row φ o low news pfn at [] [] le small long shared rest = refl
child_row φ o low news pfn at [] (f ∷ fs) le small long shared rest = absurd (omega (arith, long))
child_row φ o low news pfn at (c ∷ cs) [] le small long shared rest = absurd (omega (arith, long))
child_row φ o low news pfn at (c ∷ cs) (f ∷ fs) le small long shared rest =
    by (goes_shared o pfn)
    (let e : pfn + 0 ≡ pfn = omega arith in rw e at (shared 0 (omega arith))) rest
    (λ to. child_row φ o low news (suc pfn) at cs fs le less (omega (arith, long)) more to)
    (λ to. child_row φ o low news (suc pfn)
    (at + 1) cs fs (omega arith) less (omega (arith, long)) more to)
  where
    ψ : ℕ → ℕ
    ψ = with_new low news φ

    less : (x : ℕ) → 0 < times x cs → x < low
    less x l = small x (omega (arith, l, times_cons x c cs))

    more : (i : ℕ) → i < length cs → goes_shared o (suc pfn + i) ≡ true
        → get_or fs i 0 ≡ φ (get_or cs i 0)
    more i l e =
        shared (suc i) (omega arith)
        (let k : pfn + suc i ≡ suc pfn + i = omega arith in ap (goes_shared o) k ∙ e)

    by : (b : Bool) → (b ≡ true → f ≡ φ c)
        → ((k : ℕ)
        → get_or news (at - low + k) 0 ≡ get_or
        (if b then new_frames o (suc pfn) fs else f ∷ new_frames o (suc pfn) fs) k 0)
        → (((k : ℕ) → get_or news (at - low + k) 0 ≡ get_or (new_frames o (suc pfn) fs) k 0)
        → map (with_new low news φ) (child_colours o (suc pfn) cs at) ≡ fs)
        → (((k : ℕ) → get_or news (at + 1 - low + k) 0 ≡ get_or (new_frames o (suc pfn) fs) k 0)
        → map (with_new low news φ) (child_colours o (suc pfn) cs (at + 1)) ≡ fs)
        → map (with_new low news φ)
        (if b then c ∷ child_colours o (suc pfn) cs at else at ∷ child_colours o (suc pfn) cs
        (at + 1)) ≡ f ∷ fs
    by true same to old new =
        let l : c < low = small c (omega (arith, times_cons c c cs, one_self c)) in
        ap (λ (y : ℕ). y ∷ map (with_new low news φ) (child_colours o (suc pfn) cs at))
        (new_else low news φ c l ∙ sym (same refl)) ∙ ap (λ (ys : List ℕ). f ∷ ys) (old to)
    by false same to old new =
        let e : at - low + 0 ≡ at - low = omega arith in
        let here : get_or news (at - low) 0 ≡ f = rw e at (to 0) in
        ap (λ (y : ℕ). y ∷ map (with_new low news φ) (child_colours o (suc pfn) cs (at + 1)))
        (new_here low news φ at le ∙ here)
        ∙ ap (λ (ys : List ℕ). f ∷ ys)
        (new (λ k. let q : at + 1 - low + k ≡ at - low + suc k = omega (arith, le) in
        rw q (to (suc k))))

-- A child is born: it shares pages with its parent, and its other pages stand on frames that are
-- under no page, each of its own.
module _ (φ : ℕ → ℕ) (rows now : List (List ℕ)) (bs : Books) (id child : ℕ) (o : Own)
    (row : List ℕ) (st : Stands φ rows bs) (lt : child < length bs.list)
    (put : RowPut child row rows now) (born : IsChildRow o (get_or rows id []) row)
    (once : (f : ℕ) → times f (new_frames o 0 row) ≤ 1)
    (bare : (f : ℕ) → 0 < times f (new_frames o 0 row) → pages_on rows f ≡ 0) where
  abbrev parent : Book
  parent = book_at id bs

  abbrev low : ℕ
  low = bs.fresh

  abbrev news : List ℕ
  news = new_frames o 0 row

  abbrev ψ : ℕ → ℕ
  ψ = with_new low news φ

  abbrev count : ℕ
  count = new_count o 0 parent.colours

  abbrev cs : List ℕ
  cs = child_colours o 0 parent.colours low

  long : length row ≡ length parent.colours
  long = born.long ∙ row_long φ rows bs st id

  small : (c : ℕ) → 0 < times c parent.colours → c < low
  small c l = st.small c (in_book bs id c l)

  is : row ≡ map ψ cs
  is = sym (child_row φ o low news 0 low parent.colours row (omega arith) small long
      (λ i l e. let fit : i < length (get_or rows id []) =
      omega (arith, l, row_long φ rows bs st id) in let z : 0 + i ≡ i = omega arith in
      born.shared i fit (ap (goes_shared o) (sym z) ∙ e) ∙ page_is φ rows bs st id i fit)
      (λ k. let e : low - low + k ≡ k = omega arith in rw e refl))

  new_case : (c : ℕ) → 0 < times c cs → low ≤ c → c < low + count
  new_case c l le =
      elim (child_cases o 0 parent.colours low c l) [
        | inl k ↦ absurd (let s = small c k in
            omega (arith, s, le))
        | inr k ↦ k.1
      ]

  in_news : (c : ℕ) → 0 < times c cs → low ≤ c → c - low < length news
  in_news c l le = let k = new_case c l le in
      omega (arith, k, le, news_long o 0 parent.colours row long)

  pub stands_born : Stands (with_new bs.fresh (new_frames o 0 row) φ) now
      (books_born child o (book_at id bs) bs)
  stands_born =
      stands_with φ ψ rows now bs child (low + count)
      (book_of cs) st lt (record { ids = put.ids; here = put.here ∙ is; others = put.others })
      (omega arith)
      (λ c some. new_else low news φ c (st.small c some))
      (λ c l. elim (child_cases o 0 parent.colours low c l) [
        | inl k ↦ inl (in_book bs id c k)
        | inr k ↦ inr (
          k.0,
          k.1,
          (let there = times_in news (c - low) (in_news c l k.0) in
              ap (pages_on rows) (new_here low news φ c k.0)
              ∙ bare (get_or news (c - low) 0) there),
        )
      ])
      (λ c d l m lc ld e.
      let same =
      once_apart news (c - low) (d - low) once (in_news c l lc) (in_news d m ld)
      (sym (new_here low news φ c lc) ∙ e ∙ new_here low news φ d ld) in
      omega (arith, same, lc, ld))

  -- with its parent ready for its next line
  pub stands_committed : id < length bs.list → id ≢ child
      → Stands (with_new bs.fresh (new_frames o 0 row) φ) now
      (books_committed id o (Child child) bs)
  stands_committed fit ne =
      let next = books_born child o (book_at id bs) bs in
      stands_same ψ now next id next.fresh (record (book_at id bs)
      { stage = Ready }) stands_born
      (omega (arith, fit, length-set bs.list child (book_of cs))) (omega arith)
      (ap (λ (b : Book). b.colours)
      (sym (get_or-set_other bs.list child id (book_of cs) no_book ne)))
