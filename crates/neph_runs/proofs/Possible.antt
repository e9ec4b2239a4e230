-- The free frames of a sound state are possible.
use Rattle.std.proofs.Common.{◌≡◌, ℕ, zero, suc, ◌+◌, ◌-◌, ◌*◌, ◌≤◌, Bool, true, false, cond, inl, inr, List, length, get_or, refl, sym, ap, subst, ◌∙◌, arith}
use Rattle.std.specs.Prelude.{nat_lt, not, count_by}
use Rattle.std.specs.Option.{is_some}
use Rattle.std.specs.List.{sum_by, range_with_len}
use Rattle.std.specs.FinMap as fm
use Rattle.std.proofs.lemmas.Bool.Decides.{leb_tells}
use Rattle.neph_model.specs.declared.script.Script.{Script}
use Rattle.neph_model.specs.declared.book.Book.{Book}
use Rattle.neph_model.specs.declared.book.Stage.{Stage}
use Rattle.neph_model.specs.declared.book.Stage.TheVariants.{Ready, Copying, Forking}
use Rattle.neph_model.specs.Machine.{sum_live}
use Rattle.neph_model.specs.Books.{Books, State, no_book, free, colours_used, pages_of}
use Rattle.neph_model.specs.Counting.{cap, exposed_count, holders, exposed_in_flight, IsPossible}
use Rattle.neph_runs.specs.Orderly.{Seat, seat, ForksWell}
use Rattle.neph_runs.specs.Work.{all_ids}
use Rattle.neph_runs.proofs.Sums.{sum_le}
use Rattle.neph_runs.proofs.Falls.{next_id}
use Rattle.neph_runs.proofs.Colours.{bit}
use Rattle.neph_runs.proofs.Accounts.{need_with, tables_at, aside_at, frames_used, free_is}
use Rattle.neph_runs.proofs.Rooms.{IsSound}
use Rattle.neph_runs.proofs.Hues.{AreColoured}
use Rattle.neph_runs.proofs.Ranges.{alone, alone_pages, hidden_alone, colours_pages, list_ids, sum_plus, sum_times}

-- the exposed pages, the holders and the exposed pages in flight of a seat
abbrev shows_at : Seat → ℕ
shows_at x = cond (is_some x.life) (x.exposed.count) 0

abbrev holds_at : Seat → ℕ
holds_at x = cond (is_some x.life) (1 + length x.guest.begun) 0

abbrev flies_at : Seat → ℕ
flies_at x = cond (is_some x.life) (length x.guest.begun * x.exposed.count) 0

joined : (C T S A c t p a u v kh e f kH E I : ℕ) → C ≤ c → T ≡ t → S ≡ p → A ≡ a → u ≡ c + t + p + a → u ≤ v → v ≡ kh + (e + f) → kh ≡ kH → E ≡ e → I ≡ f → C + T + S + A ≤ kH + (E + I)
joined C T S A c t p a u v kh e f kH E I h1 h2 h3 h4 h5 h6 h7 h8 h9 h10 = omega arith

module _ (s : Script) (st : State) (sound : IsSound s st) (all : AreColoured st) where
  abbrev bs : Books
  bs = st.books

  exposed_is : exposed_count st.machine.shared ≡ sum_by (λ j. shows_at (seat st j)) (range_with_len 0 64)
  unfolding sum_live
  exposed_is = refl

  holders_are : holders st.machine.shared ≡ sum_by (λ j. holds_at (seat st j)) (range_with_len 0 64)
  unfolding sum_live
  holders_are = refl

  flying_are : exposed_in_flight st.machine.shared ≡ sum_by (λ j. flies_at (seat st j)) (range_with_len 0 64)
  unfolding sum_live
  flying_are = refl

  tables_are : all_ids (λ j. tables_at (seat st j)) ≡ sum_by (λ j. tables_at (seat st j)) (range_with_len 0 64)
  unfolding all_ids
  tables_are = refl

  asides_are : all_ids (λ j. aside_at (seat st j)) ≡ sum_by (λ j. aside_at (seat st j)) (range_with_len 0 64)
  unfolding all_ids
  asides_are = refl

  few_true : (n : ℕ) → n ≤ 1 → not (nat_lt 1 n) ≡ true
  few_true n le = elim (leb_tells 2 n) [ inl h ↦ absurd (omega (arith, h.1)) | inr h ↦ ap not h.0 ]

  shows_most : (j : ℕ) → shows_at (seat st j) ≤ count_by (alone bs) (seat st j).book.colours
  shows_most j = by (is_some (seat st j).life) refl where
    by : (b : Bool) → is_some (seat st j).life ≡ b → cond b ((seat st j).exposed.count) 0 ≤ count_by (alone bs) (seat st j).book.colours
    by false e = omega arith
    by true live =
        let x = seat st j in
        let h = sound.seats j live in
        let o = sound.orderly.seats j live in
        let hides = h.halves.hides in
        let few = hidden_alone (alone bs) x.own.pages x.book.colours o.colours (λ i lt none. few_true (pages_of (get_or x.book.colours i 0) bs) (all.solo j live i lt (inl none))) in
        omega (arith, hides, few)

  least : exposed_count st.machine.shared ≤ frames_used st
  least =
      let p = sound.orderly.places in
      let each = sum_le (λ j. count_by (alone bs) (seat st j).book.colours) (λ j. shows_at (seat st j)) 0 64 (λ j low high. shows_most j) in
      let pages = alone_pages bs 64 p.books all.small in
      omega (arith, exposed_is, each, pages)

  -- what a seat stands on, and what it may stand on
  abbrev stands_at : Seat → ℕ
  stands_at x = length x.book.colours + tables_at x + bit x.book.spare + aside_at x

  abbrev may_at : Seat → ℕ
  may_at x = cap s s.starts * holds_at x + (shows_at x + flies_at x)

  few_begun : (id next : ℕ) (begun : List ℕ) (stage : Stage) → ForksWell id next begun stage → length begun ≤ 1
  few_begun id next begun Ready h = let e = ap (λ l. length l) h in omega (arith, e)
  few_begun id next begun Copying h = let e = ap (λ l. length l) h in omega (arith, e)
  few_begun id next begun (Forking left) h = let e = ap (λ l. length l) h.1.0 in omega (arith, e)

  bound : (b pages leaves spare shown c : ℕ) → b ≤ 1 → spare ≤ 1 → pages + 2 + leaves ≤ c → pages + (1 + leaves) + spare + b * (2 + leaves + shown) ≤ c * (1 + b) + (shown + b * shown)
  bound zero pages leaves spare shown c few one le = omega arith
  bound (suc zero) pages leaves spare shown c few one le = omega arith
  bound (suc (suc b)) pages leaves spare shown c few one le = absurd (omega arith)

  bit_most : (b : Bool) → bit b ≤ 1
  bit_most true = omega arith
  bit_most false = omega arith

  stands_most : (j : ℕ) → stands_at (seat st j) ≤ may_at (seat st j)
  stands_most j = by (is_some (seat st j).life) refl where
    x : Seat
    x = seat st j

    n : ℕ
    n = need_with x.exposed (length x.own.leaves)

    by : (b : Bool) → is_some (seat st j).life ≡ b
        → length x.book.colours + cond b (1 + length x.own.leaves) 0 + bit x.book.spare + cond b (length x.guest.begun * n) 0 ≤ cap s s.starts * cond b (1 + length x.guest.begun) 0 + (cond b (x.exposed.count) 0 + cond b (length x.guest.begun * x.exposed.count) 0)
    by false dead =
        let none = all.dead j dead in
        let colours = ap (λ (b : Book). length b.colours) none in
        let spare = ap (λ (b : Book). bit b.spare) none in
        omega (arith, colours, spare)
    by true live =
        let h = sound.seats j live in
        let o = sound.orderly.seats j live in
        let few = few_begun j (next_id st) x.guest.begun x.book.stage o.forks in
        let capped = h.capped in
        let most = bound (length x.guest.begun) (length x.own.pages) (length x.own.leaves) (bit x.book.spare) (x.exposed.count) (cap s s.starts) few (bit_most x.book.spare) (omega (arith, capped)) in
        omega (arith, most, o.colours)

  most : frames_used st ≤ cap s s.starts * holders st.machine.shared + (exposed_count st.machine.shared + exposed_in_flight st.machine.shared)
  most =
      let p = sound.orderly.places in
      let is : List ℕ = range_with_len 0 64 in
      let k = cap s s.starts in
      let cs : ℕ → ℕ = λ j. length (seat st j).book.colours in
      let ts : ℕ → ℕ = λ j. tables_at (seat st j) in
      let ss : ℕ → ℕ = λ j. bit (seat st j).book.spare in
      let asides : ℕ → ℕ = λ j. aside_at (seat st j) in
      let hs : ℕ → ℕ = λ j. holds_at (seat st j) in
      let es : ℕ → ℕ = λ j. shows_at (seat st j) in
      let fs : ℕ → ℕ = λ j. flies_at (seat st j) in
      let colours = colours_pages bs in
      let flat = list_ids (λ (b : Book). length b.colours) no_book 64 bs.list p.books in
      let spares = list_ids (λ (b : Book). bit b.spare) no_book 64 bs.list p.books in
      let each = sum_le (λ j. may_at (seat st j)) (λ j. stands_at (seat st j)) 0 64 (λ j low high. stands_most j) in
      let a = sum_plus (λ j. cs j + ts j + ss j) asides is in
      let b = sum_plus (λ j. cs j + ts j) ss is in
      let c = sum_plus cs ts is in
      let d = sum_plus (λ j. k * hs j) (λ j. es j + fs j) is in
      let e = sum_plus es fs is in
      let f = sum_times k hs is in
      let g : k * holders st.machine.shared ≡ k * sum_by hs is = ap (λ n. k * n) holders_are in
      let stands : sum_by (λ j. stands_at (seat st j)) is ≡ sum_by cs is + sum_by ts is + sum_by ss is + sum_by asides is = a ∙ ap (λ n. n + sum_by asides is) (b ∙ ap (λ n. n + sum_by ss is) c) in
      let may : sum_by (λ j. may_at (seat st j)) is ≡ sum_by (λ j. k * hs j) is + (sum_by es is + sum_by fs is) = d ∙ ap (λ n. sum_by (λ j. k * hs j) is + n) e in
      joined _ _ _ _ _ _ _ _ _ _ _ _ _ _ _ _ (subst (λ n. colours_used bs ≤ n) flat colours) tables_are spares asides_are stands each may (f ∙ sym g) exposed_is flying_are

  pub possible : IsPossible s st.machine.shared (free s st)
  possible =
      let room = sound.room in
      let is = free_is s st in
      let used : s.frames - free s st ≡ frames_used st = omega (arith, room, is) in
      record { least = omega (arith, least, used); most = omega (arith, most, used) }
