-- A page that is exposed, or known to be alone, has a colour that no other page has: what moves and lines leave of it.
use Rattle.std.proofs.Common.{◌≡◌, ℕ, zero, suc, ◌+◌, ◌<◌, ◌≤◌, Bool, true, false, cond, ◌⊎◌, inl, inr, List, [], ◌∷◌, length, get_or, set, Option, Some, None, refl, sym, ap, subst, ◌∙◌, arith}
use Rattle.std.specs.Prelude.{◌==◌, ◌&&◌, not}
use Rattle.std.specs.Option.{is_some}
use Rattle.std.proofs.lemmas.Bool.{ltb-false}
use Rattle.std.proofs.lemmas.Bool.Decides.{leb_tells}
use Rattle.std.proofs.lemmas.List.{get_or-set_same, get_or-set_other}
use Rattle.neph_base.specs.declared.command.Command.{Command}
use Rattle.neph_base.specs.declared.command.Command.TheVariants as command
use Rattle.neph_base.specs.declared.command.Mode.{Mode}
use Rattle.neph_base.specs.declared.command.Mode.TheVariants.{Ro, Rw}
use Rattle.neph_model.specs.declared.own.Own.{Own}
use Rattle.neph_model.specs.declared.memory.Mapping.{Mapping}
use Rattle.neph_model.specs.declared.book.Book.{Book}
use Rattle.neph_model.specs.declared.book.Spends.{Spends}
use Rattle.neph_model.specs.declared.book.Spends.TheVariants.{Nothing, Leaf, Copy}
use Rattle.neph_model.specs.declared.told.Told.{Told}
use Rattle.neph_model.specs.declared.told.Told.TheVariants.{Enough, Short, Free}
use Rattle.neph_model.specs.Machine.{Exposed}
use Rattle.neph_model.specs.Own.{page_of, mapping_at}
use Rattle.neph_model.specs.Books.{Books, State, no_book, put_book, book_spent, fresh_spent, pages_of, is_shared}
use Rattle.neph_model.specs.Turns.{page_to_copy}
use Rattle.neph_runs.specs.Orderly.{Seat, seat, Outline}
use Rattle.neph_runs.proofs.Sums.{same_or}
use Rattle.neph_runs.proofs.Seats.{OneChanged}
use Rattle.neph_runs.proofs.Says.{Says}
use Rattle.neph_runs.proofs.Steps.{Half, half_of, Steps}
use Rattle.neph_runs.proofs.StepsBy.{leaf_of, written_to, page_written}
use Rattle.neph_runs.proofs.Colours.{bit, bit_cases, times, times_cons, pages_put, pages_least}
use Rattle.neph_runs.proofs.Sound.{AreHalves, still_hidden}
use Rattle.neph_runs.proofs.Rooms.{copy_of, copy_most, spent_times, fresh_is}

-- a page is exposed, or known to be alone
abbrev pub IsOwn : Own → ℕ → Type 0
IsOwn o pfn = (is_some (page_of o pfn) ≡ false) ⊎ (get_or o.alone pfn false ≡ true)

-- each such page of a seat has a colour of its own
abbrev pub SoloAt : Books → Seat → Type 0
SoloAt bs x = (pfn : ℕ) → pfn < length x.own.pages → IsOwn x.own pfn → pages_of (get_or x.book.colours pfn 0) bs ≤ 1

-- so it is in a state, in which each colour is below the next one, and an id with no domain has no book
pub record AreColoured (st : State) : Type 0 where
  pub small : (c : ℕ) → 0 < pages_of c st.books → c < st.books.fresh
  pub dead : (id : ℕ) → is_some (seat st id).life ≡ false → (seat st id).book ≡ no_book
  pub solo : (id : ℕ) → is_some (seat st id).life ≡ true → SoloAt st.books (seat st id)

-- no page gets an old colour, and none shares a new one
pub record Recolours (bs new : Books) : Type 0 where
  pub less : (c : ℕ) → c < bs.fresh → pages_of c new ≤ pages_of c bs
  pub more : (c : ℕ) → bs.fresh ≤ c → pages_of c new ≤ 1
  pub small : (c : ℕ) → 0 < pages_of c new → c < new.fresh

-- what is alone stays so
pub stays_one : (bs new : Books) → Recolours bs new → (c : ℕ) → pages_of c bs ≤ 1 → pages_of c new ≤ 1
stays_one bs new re c one = elim (leb_tells bs.fresh c) [
  | inl h ↦ re.more c h.1
  | inr h ↦ let less = re.less c h.1 in omega (arith, less, one)
]

pub none_above : (st : State) → AreColoured st → (c : ℕ) → st.books.fresh ≤ c → pages_of c st.books ≡ 0
none_above st all c le = by (pages_of c st.books) refl where
  by : (n : ℕ) → pages_of c st.books ≡ n → n ≡ 0
  by zero e = refl
  by (suc n) e = let h = all.small c (omega (arith, e)) in absurd (omega (arith, h))

times_set_most : (c v pfn : ℕ) (cs : List ℕ) → times c (set cs pfn v) ≤ times c cs + bit (v == c)
times_set_most c v pfn [] = omega arith
times_set_most c v zero (x ∷ xs) = omega (arith, times_cons c v xs, times_cons c x xs)
times_set_most c v (suc pfn) (x ∷ xs) = omega (arith, times_set_most c v pfn xs, times_cons c x (set xs pfn v), times_cons c x xs)

spent_most : (sp : Spends) (fresh : ℕ) (b : Book) (c : ℕ) → fresh ≤ c → times c (book_spent sp fresh b).colours ≤ times c b.colours + copy_of sp
spent_most Nothing fresh b c le = omega arith
spent_most Leaf fresh b c le = omega arith
spent_most (Copy pfn) fresh b c le = elim (bit_cases fresh c) [ inl h ↦ omega (arith, h.1, times_set_most c fresh pfn b.colours) | inr h ↦ omega (arith, h.1, times_set_most c fresh pfn b.colours) ]

spent_small : (sp : Spends) (fresh : ℕ) (b : Book) (c : ℕ) → fresh + copy_of sp ≤ c → times c (book_spent sp fresh b).colours ≤ times c b.colours
spent_small Nothing fresh b c le = omega arith
spent_small Leaf fresh b c le = omega arith
spent_small (Copy pfn) fresh b c le = elim (bit_cases fresh c) [ inl h ↦ absurd (omega (arith, h.0)) | inr h ↦ omega (arith, h.1, times_set_most c fresh pfn b.colours) ]

module _ (st : State) (all : AreColoured st) (id : ℕ) (lt : id < length st.books.list) where
  abbrev x : Seat
  x = seat st id

  -- a book behind which a spare was spent
  pub spent_recolours : (sp : Spends) (b : Book) → ((c : ℕ) → times c b.colours ≤ times c (book_spent sp st.books.fresh x.book).colours) → Recolours st.books (record (put_book id b st.books) { fresh = fresh_spent sp st.books.fresh })
  spent_recolours sp b under =
      let bs = st.books in
      let fresh = fresh_spent sp bs.fresh in
      let is = fresh_is sp bs.fresh in
      let new : Books = record (put_book id b bs) { fresh = fresh } in
      record {
        less = λ c below. let put = pages_put c bs id b fresh lt in let most = spent_times sp bs.fresh x.book c below in let u = under c in omega (arith, put, most, u);
        more = λ c above. let put = pages_put c bs id b fresh lt in let none = none_above st all c above in let least = pages_least c bs id lt in let most = spent_most sp bs.fresh x.book c above in let few = copy_most sp in let u = under c in omega (arith, put, none, least, most, few, u);
        small = λ c some. below_or c fresh
            (λ l. l)
            (λ le.
            let put = pages_put c bs id b fresh lt in
            let none = none_above st all c (omega (arith, is, le)) in
            let least = pages_least c bs id lt in
            let most = spent_small sp bs.fresh x.book c (omega (arith, is, le)) in
            let u = under c in
            absurd (omega (arith, put, none, least, most, u, some)));
      }
    where
      below_or : {P : Type 0} (c n : ℕ) → (c < n → P) → (n ≤ c → P) → P
      below_or c n f g = elim (leb_tells n c) [ inl h ↦ g h.1 | inr h ↦ f h.1 ]

  -- what a state is behind another seat of one id
  pub one_coloured : (new : State) (y : Seat) → Recolours st.books new.books → OneChanged st new id y → (is_some y.life ≡ true → SoloAt new.books y) → (is_some y.life ≡ false → y.book ≡ no_book) → AreColoured new
  one_coloured new y re turns solo dead =
      record {
        small = re.small;
        dead = λ j. same_or {P = is_some (seat new j).life ≡ false → (seat new j).book ≡ no_book} j id
            (λ e l. let is : seat new j ≡ y = ap (seat new) e ∙ turns.here in ap (λ (v : Seat). v.book) is ∙ dead (ap (λ (v : Seat). is_some v.life) (sym is) ∙ l))
            (λ ne l. let is = turns.others j ne in ap (λ (v : Seat). v.book) is ∙ all.dead j (ap (λ (v : Seat). is_some v.life) (sym is) ∙ l));
        solo = λ j. same_or {P = is_some (seat new j).life ≡ true → SoloAt new.books (seat new j)} j id
            (λ e l. let is : seat new j ≡ y = ap (seat new) e ∙ turns.here in subst (SoloAt new.books) (sym is) (solo (ap (λ (v : Seat). is_some v.life) (sym is) ∙ l)))
            (λ ne l.
            let is = turns.others j ne in
            subst (SoloAt new.books) (sym is) (λ pfn within own. stays_one st.books new.books re (get_or (seat st j).book.colours pfn 0) (all.solo j (ap (λ (v : Seat). is_some v.life) (sym is) ∙ l) pfn within own)));
      }

  -- a page of the domain before, whose colour was its own, has one behind a line
  kept_solo : (new : Books) → Recolours st.books new → (sp : Spends) (pfn : ℕ) → pfn < length x.book.colours → pages_of (get_or x.book.colours pfn 0) st.books ≤ 1 → pages_of (get_or (book_spent sp st.books.fresh x.book).colours pfn 0) new ≤ 1
  kept_solo new re Nothing pfn within one = stays_one st.books new re (get_or x.book.colours pfn 0) one
  kept_solo new re Leaf pfn within one = stays_one st.books new re (get_or x.book.colours pfn 0) one
  kept_solo new re (Copy p) pfn within one = same_or {P = pages_of (get_or (set x.book.colours p st.books.fresh) pfn 0) new ≤ 1} pfn p
      (λ e. subst (λ c. pages_of c new ≤ 1) (sym (ap (λ q. get_or (set x.book.colours p st.books.fresh) q 0) e ∙ get_or-set_same x.book.colours p st.books.fresh 0 (subst (λ q. q < length x.book.colours) e within))) (re.more st.books.fresh (omega arith)))
      (λ ne. subst (λ c. pages_of c new ≤ 1) (sym (get_or-set_other x.book.colours p pfn st.books.fresh 0 ne)) (stays_one st.books new re (get_or x.book.colours pfn 0) one))

  -- so has the page that it wrote
  wrote_solo : (live : is_some x.life ≡ true) (new : Books) → Recolours st.books new → (n : ℕ) (c : Command) (t : Told) (sp : Spends) (pfn : ℕ) → pfn < length x.own.pages → pfn < length x.book.colours → Says n st.books x.own x.book c t sp → page_written x.own t c ≡ Some pfn
      → pages_of (get_or (book_spent sp st.books.fresh x.book).colours pfn 0) new ≤ 1
  wrote_solo live new re n (command.W addr bytes) t sp pfn inside within says e = by (mapping_at x.own addr) refl e where
    bs : Books
    bs = st.books

    same : {a b : ℕ} → Some a ≡ Some b → a ≡ b
    same e = cc

    -- by the mode, whether the page is its own half's, and whether its colour is shared
    copies : (to : Mapping) → to.pfn ≡ pfn → (a b : Bool) → is_some (page_of x.own to.pfn) ≡ a → is_shared (get_or x.book.colours to.pfn 0) bs ≡ b → (sp : Spends) → (cond (a && b) (Some to.pfn) None ≡ None) → pages_of (get_or x.book.colours pfn 0) bs ≤ 1
    copies to is true true p q sp h = absurd cc
    copies to is true false p q sp h = subst (λ k. pages_of (get_or x.book.colours k 0) bs ≤ 1) is (ltb-false 1 (pages_of (get_or x.book.colours to.pfn 0) bs) q)
    copies to is false b p q sp h = all.solo id live pfn inside (inl (ap (λ k. is_some (page_of x.own k)) (sym is) ∙ p))

    copied : (to : Mapping) → to.pfn ≡ pfn → (b : Bool) (p : ℕ) → cond b (Some to.pfn) None ≡ Some p → p ≡ pfn
    copied to is true p h = same (sym h) ∙ is
    copied to is false p h = absurd cc

    copy_at : (to : Mapping) → mapping_at x.own addr ≡ Some to → to.mode ≡ Rw → (page : Option ℕ) → page_to_copy bs x.own x.book (mapping_at x.own addr) ≡ page → cond (is_some (page_of x.own to.pfn) && is_shared (get_or x.book.colours to.pfn 0) bs) (Some to.pfn) None ≡ page
    copy_at to met mode page h = by_mode to.mode mode ∙ (sym (ap (page_to_copy bs x.own x.book) met) ∙ h) where
      modal : Mode → Option ℕ
      modal Ro = None
      modal Rw = cond (is_some (page_of x.own to.pfn) && is_shared (get_or x.book.colours to.pfn 0) bs) (Some to.pfn) None

      by_mode : (mode : Mode) → mode ≡ Rw → modal Rw ≡ modal mode
      by_mode mode e = ap modal (sym e)

    spent : (to : Mapping) → to.pfn ≡ pfn → mapping_at x.own addr ≡ Some to → to.mode ≡ Rw → (sp : Spends) → Says n bs x.own x.book (command.W addr bytes) Enough sp → pages_of (get_or (book_spent sp bs.fresh x.book).colours pfn 0) new ≤ 1
    spent to is met mode Nothing h =
        let shared = is_shared (get_or x.book.colours to.pfn 0) bs in
        let none : cond (is_some (page_of x.own to.pfn) && shared) (Some to.pfn) None ≡ None = copy_at to met mode None h in
        kept_solo new re Nothing pfn within (copies to is (is_some (page_of x.own to.pfn)) shared refl refl Nothing none)
    spent to is met mode Leaf h = absurd h
    spent to is met mode (Copy p) h =
        let shared = is_shared (get_or x.book.colours to.pfn 0) bs in
        let some : cond (is_some (page_of x.own to.pfn) && shared) (Some to.pfn) None ≡ Some p = copy_at to met mode (Some p) h.0 in
        let at = copied to is (is_some (page_of x.own to.pfn) && shared) p some in
        subst (λ q. pages_of (get_or (set x.book.colours q bs.fresh) pfn 0) new ≤ 1) (sym at) (subst (λ c. pages_of c new ≤ 1) (sym (get_or-set_same x.book.colours pfn bs.fresh 0 within)) (re.more bs.fresh (omega arith)))

    wrote : Mapping → Mode → Told → Option ℕ
    wrote to Ro t = None
    wrote to Rw Short = None
    wrote to Rw Enough = Some to.pfn
    wrote to Rw (Free f) = Some to.pfn

    told : (to : Mapping) (mode : Mode) (t : Told) → to.mode ≡ mode → mapping_at x.own addr ≡ Some to → Says n bs x.own x.book (command.W addr bytes) t sp → wrote to mode t ≡ Some pfn → pages_of (get_or (book_spent sp bs.fresh x.book).colours pfn 0) new ≤ 1
    told to Ro t m met h w = absurd cc
    told to Rw Short m met h w = absurd cc
    told to Rw Enough m met h w = spent to (same w) met m sp h
    told to Rw (Free f) m met h w = absurd h

    by : (met : Option Mapping) → mapping_at x.own addr ≡ met → written_to t met ≡ Some pfn → pages_of (get_or (book_spent sp bs.fresh x.book).colours pfn 0) new ≤ 1
    by None m w = absurd cc
    by (Some to) m w = told to to.mode t refl m says w
  wrote_solo live new re n (command.R addr len) t sp pfn inside within says e = absurd cc
  wrote_solo live new re n (command.Map vpn p mode) t sp pfn inside within says e = absurd cc
  wrote_solo live new re n (command.Unmap vpn) t sp pfn inside within says e = absurd cc
  wrote_solo live new re n (command.Jump label) t sp pfn inside within says e = absurd cc
  wrote_solo live new re n (command.JChild label) t sp pfn inside within says e = absurd cc
  wrote_solo live new re n (command.JFail label) t sp pfn inside within says e = absurd cc
  wrote_solo live new re n command.Exit t sp pfn inside within says e = absurd cc
  wrote_solo live new re n command.Free t sp pfn inside within says e = absurd cc
  wrote_solo live new re n command.Clone t sp pfn inside within says e = absurd cc
  wrote_solo live new re n (command.Ungrant r) t sp pfn inside within says e = absurd cc
  wrote_solo live new re n (command.Gmap granter r) t sp pfn inside within says e = absurd cc
  wrote_solo live new re n (command.Gunmap h) t sp pfn inside within says e = absurd cc
  wrote_solo live new re n (command.Hr h at len) t sp pfn inside within says e = absurd cc
  wrote_solo live new re n (command.Hw h at bytes) t sp pfn inside within says e = absurd cc

  -- the pages of a domain behind a line
  pub steps_solo : (live : is_some x.life ≡ true) → AreHalves (half_of x) → length x.book.colours ≡ length x.own.pages → (new : Books) → Recolours st.books new → (n : ℕ) (c : Command) (t : Told) (sp : Spends) (after : Half) → Says n st.books x.own x.book c t sp
      → Steps (half_of x) after (leaf_of sp) (page_written x.own t c) → (pfn : ℕ) → pfn < length after.own.pages → IsOwn after.own pfn → pages_of (get_or (book_spent sp st.books.fresh x.book).colours pfn 0) new ≤ 1
  steps_solo live halves same new re n c t sp after says steps pfn lt own =
      let inside : pfn < length x.own.pages = omega (arith, lt, steps.pages) in
      let within : pfn < length x.book.colours = omega (arith, inside, same) in
      let old : IsOwn x.own pfn → pages_of (get_or (book_spent sp st.books.fresh x.book).colours pfn 0) new ≤ 1 = λ o. kept_solo new re sp pfn within (all.solo id live pfn inside o) in
      elim own as (λ o. pages_of (get_or (book_spent sp st.books.fresh x.book).colours pfn 0) new ≤ 1) [
        | inl none ↦ old (inl (still_hidden (half_of x) after (leaf_of sp) (page_written x.own t c) steps pfn inside none))
        | inr alone ↦
            elim (steps.alone pfn alone) as (λ o. pages_of (get_or (book_spent sp st.books.fresh x.book).colours pfn 0) new ≤ 1) [
              | inl k ↦ elim k as (λ o. pages_of (get_or (book_spent sp st.books.fresh x.book).colours pfn 0) new ≤ 1) [ inl a ↦ old (inr a) | inr shown ↦ old (inl (halves.apart pfn inside ∙ ap not shown)) ]
              | inr wrote ↦ wrote_solo live new re n c t sp pfn inside within says wrote
            ]
      ]
