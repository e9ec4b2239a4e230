-- What a commit leaves of the colours of pages that are alone.
use Rattle.std.proofs.Common.{◌≡◌, ◌≢◌, ℕ, zero, suc, ◌+◌, ◌<◌, ◌≤◌, Bool, true, false, cond, inl, inr, List, [], ◌∷◌, length, get_or, set, refl, sym, ap, subst, ◌∙◌, arith}
use Rattle.std.specs.Prelude.{◌==◌, ◌&&◌, not, option_map}
use Rattle.std.specs.Option.{is_some}
use Rattle.std.proofs.lemmas.Bool.{false≢true}
use Rattle.std.proofs.lemmas.Bool.Decides.{leb_tells}
use Rattle.std.proofs.lemmas.List.{length-set, get_or-set_other}
use Rattle.neph_model.specs.declared.own.Own.{Own}
use Rattle.neph_model.specs.declared.script.Script.{Script}
use Rattle.neph_model.specs.declared.book.Book.{Book}
use Rattle.neph_model.specs.declared.book.Stage.TheVariants.{Ready}
use Rattle.neph_model.specs.Memory.{page_with_identity}
use Rattle.neph_model.specs.Own.{page_of}
use Rattle.neph_model.specs.Births.{none_alone}
use Rattle.neph_model.specs.Books.{Books, State, no_book, book_of, put_book, pages_of, goes_shared, child_colours, new_count}
use Rattle.neph_runs.specs.Orderly.{Seat, seat, IsOrderly}
use Rattle.neph_runs.proofs.Sums.{same_or}
use Rattle.neph_runs.proofs.Births.{TwoChanged, parent_seat, child_seat, born}
use Rattle.neph_runs.proofs.Colours.{bit_cases, times, times_cons, times_child, pages_put, pages_least}
use Rattle.neph_runs.proofs.Sound.{first_some}
use Rattle.neph_runs.proofs.Hues.{SoloAt, AreColoured, none_above}

-- a colour that stands at a place is there
pub times_at : (cs : List ℕ) (j : ℕ) → j < length cs → 1 ≤ times (get_or cs j 0) cs
times_at [] j lt = absurd (omega arith)
times_at (x ∷ xs) zero lt = elim (bit_cases x x) [ inl h ↦ omega (arith, h.1, times_cons x x xs) | inr h ↦ absurd (h.0 refl) ]
times_at (x ∷ xs) (suc j) lt = omega (arith, times_at xs j (omega arith), times_cons (get_or xs j 0) x xs)

-- a page that isn't shared leaves its colour to the parent
strict : (o : Own) (pfn : ℕ) (cs : List ℕ) (f c j : ℕ) → j < length cs → get_or cs j 0 ≡ c → c < f → goes_shared o (pfn + j) ≡ false → times c (child_colours o pfn cs f) + 1 ≤ times c cs
strict o pfn [] f c j lt at below far = absurd (omega arith)
strict o pfn (x ∷ xs) f c zero lt at below far =
    let here : goes_shared o pfn ≡ false = ap (goes_shared o) (omega arith) ∙ far in
    let cut = ap (λ b. times c (cond b (x ∷ child_colours o (suc pfn) xs f) (f ∷ child_colours o (suc pfn) xs (f + 1)))) here in
    let rest = times_child c (f + 1) o (suc pfn) xs (omega arith) in
    elim (bit_cases f c) [
      | inl h ↦ absurd (omega (arith, h.0))
      | inr h ↦
          elim (bit_cases x c) [
            | inl k ↦ omega (arith, cut, rest, h.1, k.1, times_cons c f (child_colours o (suc pfn) xs (f + 1)), times_cons c x xs)
            | inr k ↦ absurd (k.0 at)
          ]
    ]
strict o pfn (x ∷ xs) f c (suc j) lt at below far =
    let next : goes_shared o (suc pfn + j) ≡ false = ap (goes_shared o) (omega arith) ∙ far in
    elim (goes_shared o pfn) as (λ b. times c (cond b (x ∷ child_colours o (suc pfn) xs f) (f ∷ child_colours o (suc pfn) xs (f + 1))) + 1 ≤ times c (x ∷ xs)) [
      | true ↦ omega (arith, strict o (suc pfn) xs f c j (omega arith) at below next, times_cons c x (child_colours o (suc pfn) xs f), times_cons c x xs)
      | false ↦
          elim (bit_cases f c) as (λ h. times c (f ∷ child_colours o (suc pfn) xs (f + 1)) + 1 ≤ times c (x ∷ xs)) [
            | inl h ↦ absurd (omega (arith, h.0))
            | inr h ↦ omega (arith, strict o (suc pfn) xs (f + 1) c j (omega arith) at (omega arith) next, h.1, times_cons c f (child_colours o (suc pfn) xs (f + 1)), times_cons c x xs)
          ]
    ]

-- a page that isn't shared gets a new colour
fresh_at : (o : Own) (pfn : ℕ) (cs : List ℕ) (f j : ℕ) → j < length cs → goes_shared o (pfn + j) ≡ false → f ≤ get_or (child_colours o pfn cs f) j 0
fresh_at o pfn [] f j lt far = absurd (omega arith)
fresh_at o pfn (x ∷ xs) f zero lt far =
    let here : goes_shared o pfn ≡ false = ap (goes_shared o) (omega arith) ∙ far in
    let cut = ap (λ b. get_or (cond b (x ∷ child_colours o (suc pfn) xs f) (f ∷ child_colours o (suc pfn) xs (f + 1))) zero 0) here in
    omega (arith, cut)
fresh_at o pfn (x ∷ xs) f (suc j) lt far =
    let next : goes_shared o (suc pfn + j) ≡ false = ap (goes_shared o) (omega arith) ∙ far in
    elim (goes_shared o pfn) as (λ b. f ≤ get_or (cond b (x ∷ child_colours o (suc pfn) xs f) (f ∷ child_colours o (suc pfn) xs (f + 1))) (suc j) 0) [
      | true ↦ fresh_at o (suc pfn) xs f j (omega arith) next
      | false ↦ omega (arith, fresh_at o (suc pfn) xs (f + 1) j (omega arith) next)
    ]

-- each colour of a list is below this
abbrev Below : List ℕ → ℕ → Type 0
Below cs n = (y : ℕ) → 0 < times y cs → y < n

below_tail : (x : ℕ) (xs : List ℕ) (n : ℕ) → Below (x ∷ xs) n → Below xs n
below_tail x xs n h y pos = h y (omega (arith, pos, times_cons y x xs))

below_head : (x : ℕ) (xs : List ℕ) (n : ℕ) → Below (x ∷ xs) n → x < n
below_head x xs n h = h x (omega (arith, times_at (x ∷ xs) 0 (omega arith)))

-- a colour between the old ones and the new ones is on no page of a child
none_between : (o : Own) (pfn : ℕ) (cs : List ℕ) (n f c : ℕ) → Below cs n → n ≤ c → c < f → times c (child_colours o pfn cs f) ≡ 0
none_between o pfn [] n f c h le lt = refl
none_between o pfn (x ∷ xs) n f c h le lt =
    let head = below_head x xs n h in
    elim (goes_shared o pfn) as (λ b. times c (cond b (x ∷ child_colours o (suc pfn) xs f) (f ∷ child_colours o (suc pfn) xs (f + 1))) ≡ 0) [
      | true ↦
          elim (bit_cases x c) as (λ k. times c (x ∷ child_colours o (suc pfn) xs f) ≡ 0) [
            | inl k ↦ absurd (omega (arith, k.0, head))
            | inr k ↦ omega (arith, k.1, none_between o (suc pfn) xs n f c (below_tail x xs n h) le lt, times_cons c x (child_colours o (suc pfn) xs f))
          ]
      | false ↦
          elim (bit_cases f c) as (λ k. times c (f ∷ child_colours o (suc pfn) xs (f + 1)) ≡ 0) [
            | inl k ↦ absurd (omega (arith, k.0))
            | inr k ↦ omega (arith, k.1, none_between o (suc pfn) xs n (f + 1) c (below_tail x xs n h) le (omega arith), times_cons c f (child_colours o (suc pfn) xs (f + 1)))
          ]
    ]

-- a new colour is on one page of a child at most
once : (o : Own) (pfn : ℕ) (cs : List ℕ) (n f c : ℕ) → Below cs n → n ≤ f → f ≤ c → times c (child_colours o pfn cs f) ≤ 1
once o pfn [] n f c h le lt = omega arith
once o pfn (x ∷ xs) n f c h le lt =
    let head = below_head x xs n h in
    elim (goes_shared o pfn) as (λ b. times c (cond b (x ∷ child_colours o (suc pfn) xs f) (f ∷ child_colours o (suc pfn) xs (f + 1))) ≤ 1) [
      | true ↦
          elim (bit_cases x c) as (λ k. times c (x ∷ child_colours o (suc pfn) xs f) ≤ 1) [
            | inl k ↦ absurd (omega (arith, k.0, head))
            | inr k ↦ omega (arith, k.1, once o (suc pfn) xs n f c (below_tail x xs n h) le lt, times_cons c x (child_colours o (suc pfn) xs f))
          ]
      | false ↦
          elim (bit_cases f c) as (λ k. times c (f ∷ child_colours o (suc pfn) xs (f + 1)) ≤ 1) [
            | inl k ↦ omega (arith, k.1, none_between o (suc pfn) xs n (f + 1) c (below_tail x xs n h) (omega (arith, k.0)) (omega (arith, k.0)), times_cons c f (child_colours o (suc pfn) xs (f + 1)))
            | inr k ↦ omega (arith, k.1, once o (suc pfn) xs n (f + 1) c (below_tail x xs n h) (omega arith) (omega (arith, k.0)), times_cons c f (child_colours o (suc pfn) xs (f + 1)))
          ]
    ]

-- each colour of a child is an old one or one of the new ones
child_small : (o : Own) (pfn : ℕ) (cs : List ℕ) (f c : ℕ) → Below cs f → 0 < times c (child_colours o pfn cs f) → c < f + new_count o pfn cs
child_small o pfn [] f c h = λ pos. absurd (omega arith)
child_small o pfn (x ∷ xs) f c h = elim (goes_shared o pfn) as (λ b. 0 < times c (cond b (x ∷ child_colours o (suc pfn) xs f) (f ∷ child_colours o (suc pfn) xs (f + 1))) → c < f + cond b (new_count o (suc pfn) xs) (1 + new_count o (suc pfn) xs)) [
  | true ↦ λ pos.
      elim (bit_cases x c) as (λ k. c < f + new_count o (suc pfn) xs) [
        | inl k ↦ let head = below_head x xs f h in omega (arith, k.0, head)
        | inr k ↦ child_small o (suc pfn) xs f c (below_tail x xs f h) (omega (arith, k.1, pos, times_cons c x (child_colours o (suc pfn) xs f)))
      ]
  | false ↦ λ pos.
      elim (bit_cases f c) as (λ k. c < f + (1 + new_count o (suc pfn) xs)) [
        | inl k ↦ omega (arith, k.0)
        | inr k ↦
            let more : Below xs (f + 1) = λ y p. let l = h y (omega (arith, p, times_cons y x xs)) in omega (arith, l) in
            let rest = child_small o (suc pfn) xs (f + 1) c more (omega (arith, k.1, pos, times_cons c f (child_colours o (suc pfn) xs (f + 1)))) in
            omega (arith, rest)
      ]
]

unshared : (a b : Bool) → b ≡ false → a && b ≡ false
unshared true b e = e
unshared false b e = refl

none_at : (alone : List Bool) (pfn : ℕ) → get_or (none_alone alone) pfn false ≡ false
none_at [] pfn = refl
none_at (a ∷ rest) zero = refl
none_at (a ∷ rest) (suc pfn) = none_at rest pfn

module _ (s : Script) (st : State) (id child : ℕ) (orderly : IsOrderly st) (all : AreColoured st) (live : is_some (seat st id).life ≡ true) (lt : id < 64) (high : child < 64) (ne : id ≢ child) where
  abbrev x : Seat
  x = seat st id

  abbrev bs : Books
  bs = st.books

  abbrev cs : List ℕ
  cs = x.book.colours

  abbrev new : State
  new = born s st id child

  abbrev cb : List ℕ
  cb = child_colours x.own 0 cs bs.fresh

  booked : id < length bs.list
  booked = let p = orderly.places in omega (arith, lt, p.books)

  placed : child < length bs.list
  placed = let p = orderly.places in omega (arith, high, p.books)

  colours : length cs ≡ length x.own.pages
  colours = let h = orderly.seats id live in h.colours

  below : Below cs bs.fresh
  below y pos = all.small y (let least = pages_least y bs id booked in omega (arith, pos, least))

  -- no colour is on more pages than before, but by those of the child
  more_by : (c : ℕ) → pages_of c new.books ≤ pages_of c bs + times c cb
  more_by c =
      let mid : Books = record bs { list = set bs.list child (book_of cb) } in
      let pb : Book = record x.book { stage = Ready } in
      let first = pages_put c bs child (book_of cb) bs.fresh placed in
      let inside : id < length mid.list = omega (arith, booked, length-set bs.list child (book_of cb)) in
      let then = pages_put c mid id pb (bs.fresh + new_count x.own 0 cs) inside in
      let at = ap (λ (b : Book). times c b.colours) (get_or-set_other bs.list child id (book_of cb) no_book ne) in
      omega (arith, first, then, at)

  -- a colour that the child doesn't get stays alone
  stays : (c : ℕ) → pages_of c bs ≤ 1 → times c cb ≡ 0 → pages_of c new.books ≤ 1
  stays c one none = let m = more_by c in omega (arith, m, one, none)

  parent_solo : SoloAt new.books (parent_seat x)
  parent_solo pfn inside own = elim own as (λ o. pages_of (get_or cs pfn 0) new.books ≤ 1) [
    | inl none ↦
        let c = get_or cs pfn 0 in
        let within : pfn < length cs = omega (arith, inside, colours) in
        let one = all.solo id live pfn inside (inl none) in
        let some = times_at cs pfn within in
        let least = pages_least c bs id booked in
        let old = all.small c (omega (arith, some, least)) in
        let hid : goes_shared x.own (0 + pfn) ≡ false = ap (goes_shared x.own) (omega arith) ∙ unshared (not (pfn == 0)) (is_some (page_of x.own pfn)) none in
        let less = strict x.own 0 cs bs.fresh c pfn within refl old hid in
        stays c one (omega (arith, less, least, one))
    | inr alone ↦ absurd (false≢true (sym (none_at x.own.alone pfn) ∙ alone))
  ]

  child_solo : SoloAt new.books (child_seat id child bs.fresh x)
  child_solo pfn inside own = elim own as (λ o. pages_of (get_or cb pfn 0) new.books ≤ 1) [
    | inl none ↦
        let f : List ℕ → List ℕ = λ page. page_with_identity page child id (length x.own.pages) in
        let within : pfn < length cs = omega (arith, inside, colours, length-set x.own.pages 0 (option_map f (page_of x.own 0))) in
        let gone : is_some (page_of x.own pfn) ≡ false = sym (first_some x.own.pages f pfn) ∙ none in
        let hid : goes_shared x.own (0 + pfn) ≡ false = ap (goes_shared x.own) (omega arith) ∙ unshared (not (pfn == 0)) (is_some (page_of x.own pfn)) gone in
        let c = get_or cb pfn 0 in
        let above = fresh_at x.own 0 cs bs.fresh pfn within hid in
        let single = once x.own 0 cs bs.fresh bs.fresh c below (omega arith) above in
        let old = none_above st all c above in
        let m = more_by c in
        omega (arith, m, old, single)
    | inr alone ↦ absurd (false≢true (sym (none_at x.own.alone pfn) ∙ alone))
  ]

  other_solo : (j : ℕ) → j ≢ id → is_some (seat st j).life ≡ true → SoloAt new.books (seat st j)
  other_solo j off l pfn inside own =
      let o = orderly.seats j l in
      let y = seat st j in
      let c = get_or y.book.colours pfn 0 in
      let top = orderly.high in
      let p = orderly.places in
      let within : pfn < length y.book.colours = omega (arith, inside, o.colours) in
      let one = all.solo j l pfn inside own in
      let some = times_at y.book.colours pfn within in
      let seated : j < length bs.list = omega (arith, o.high, top, p.books) in
      let old = all.small c (let least = pages_least c bs j seated in omega (arith, some, least)) in
      let mid : Books = put_book id no_book bs in
      let put = pages_put c bs id no_book bs.fresh booked in
      let there : j < length mid.list = omega (arith, seated, length-set bs.list id no_book) in
      let least = pages_least c mid j there in
      let at = ap (λ (b : Book). times c b.colours) (get_or-set_other bs.list id j no_book no_book off) in
      let most = times_child c bs.fresh x.own 0 cs old in
      stays c one (omega (arith, one, some, put, least, at, most))

  pub born_coloured : TwoChanged st new id child (parent_seat x) (child_seat id child bs.fresh x) → is_some (child_seat id child bs.fresh x).life ≡ true → AreColoured new
  born_coloured bears alive =
      record {
        small = λ c pos.
            elim (leb_tells (pages_of c bs) 0) as (λ h. c < bs.fresh + new_count x.own 0 cs) [
              | inl h ↦ child_small x.own 0 cs bs.fresh c below (let m = more_by c in omega (arith, m, pos, h.1))
              | inr h ↦ let old = all.small c (omega (arith, h.1)) in omega (arith, old)
            ];
        dead = λ j. same_or {P = is_some (seat new j).life ≡ false → (seat new j).book ≡ no_book} j id
            (λ e l. absurd (false≢true (sym l ∙ ap (λ i. is_some (seat new i).life) e ∙ ap (λ (v : Seat). is_some v.life) bears.parent_is ∙ live)))
            (λ off.
            same_or {P = is_some (seat new j).life ≡ false → (seat new j).book ≡ no_book} j child
            (λ e l. absurd (false≢true (sym l ∙ ap (λ i. is_some (seat new i).life) e ∙ ap (λ (v : Seat). is_some v.life) bears.child_is ∙ alive)))
            (λ away l. let is = bears.others j off away in ap (λ (v : Seat). v.book) is ∙ all.dead j (ap (λ (v : Seat). is_some v.life) (sym is) ∙ l)));
        solo = λ j. same_or {P = is_some (seat new j).life ≡ true → SoloAt new.books (seat new j)} j id
            (λ e l. subst (SoloAt new.books) (sym (ap (seat new) e ∙ bears.parent_is)) parent_solo)
            (λ off.
            same_or {P = is_some (seat new j).life ≡ true → SoloAt new.books (seat new j)} j child
            (λ e l. subst (SoloAt new.books) (sym (ap (seat new) e ∙ bears.child_is)) child_solo)
            (λ away l. let is = bears.others j off away in subst (SoloAt new.books) (sym is) (other_solo j off (ap (λ (v : Seat). is_some v.life) (sym is) ∙ l))));
      }
