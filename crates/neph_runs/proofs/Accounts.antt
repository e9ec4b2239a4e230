-- The frames that a state uses are no more than there are, turn by turn.
use Rattle.std.proofs.Common.{◌≡◌, ◌≢◌, ℕ, ◌+◌, ◌-◌, ◌*◌, ◌<◌, ◌≤◌, cond, length, get_or, set, refl, ap, arith}
use Rattle.std.specs.Option.{is_some}
use Rattle.std.proofs.lemmas.List.{length-set, get_or-set_other}
use Rattle.neph_model.specs.declared.script.Script.{Script}
use Rattle.neph_model.specs.declared.book.Book.{Book}
use Rattle.neph_model.specs.Machine.{sum_live}
use Rattle.neph_model.specs.Frames.{used, AddsUp}
use Rattle.neph_model.specs.Books.{Books, State, no_book, put_book, colours_used, spares_held, table_frames, aside_for, counts, free}
use Rattle.neph_runs.specs.Orderly.{Seat, Outline, seat}
use Rattle.neph_runs.specs.Work.{all_ids}
use Rattle.neph_runs.proofs.Sums.{ids_one, ids_two}
use Rattle.neph_runs.proofs.Seats.{OneChanged}
use Rattle.neph_runs.proofs.Births.{TwoChanged}
use Rattle.neph_runs.proofs.Colours.{times, pages_put, pages_least, colours_grow}

-- the table frames of a seat
abbrev pub tables_at : Seat → ℕ
tables_at x = cond (is_some x.life) (1 + length x.own.leaves) 0

-- the frames that a clone needs, by which pages are exposed
abbrev pub need_with : Outline → ℕ → ℕ
need_with e leaves = 2 + leaves + e.count

-- the frames that the clones in flight of a seat have put aside
abbrev pub aside_at : Seat → ℕ
aside_at x = cond (is_some x.life) (length x.guest.begun * need_with x.exposed (length x.own.leaves)) 0

-- the frames that a state uses
abbrev pub frames_used : State → ℕ
frames_used st = colours_used st.books + all_ids (λ id. tables_at (seat st id)) + spares_held st.books + all_ids (λ id. aside_at (seat st id))

pub tables_are : (st : State) → sum_live (table_frames st.machine) st.machine.shared.lives ≡ all_ids (λ id. tables_at (seat st id))
unfolding sum_live all_ids
tables_are st = refl

pub asides_are : (st : State) → sum_live (aside_for st.machine) st.machine.shared.lives ≡ all_ids (λ id. aside_at (seat st id))
unfolding sum_live all_ids
asides_are st = refl

pub used_is : (s : Script) (st : State) → used (counts s st) ≡ frames_used st
used_is s st = omega (arith, tables_are st, asides_are st)

pub free_is : (s : Script) (st : State) → free s st ≡ s.frames - frames_used st
free_is s st = omega (arith, tables_are st, asides_are st)

pub adds_up : (s : Script) (st : State) → frames_used st ≤ s.frames → AddsUp (counts s st)
adds_up s st le = omega (arith, used_is s st, free_is s st)

-- another seat of one id, of no more tables and frames aside than this in all
pub one_uses : (st new : State) (id : ℕ) (x : Seat) → id < 64 → OneChanged st new id x
    → (all_ids (λ j. tables_at (seat new j)) + tables_at (seat st id) ≤ all_ids (λ j. tables_at (seat st j)) + tables_at x) × (all_ids (λ j. aside_at (seat new j)) + aside_at (seat st id) ≤ all_ids (λ j. aside_at (seat st j)) + aside_at x)
one_uses st new id x lt turns = (sums tables_at, sums aside_at) where
  sums : (f : Seat → ℕ) → all_ids (λ j. f (seat new j)) + f (seat st id) ≤ all_ids (λ j. f (seat st j)) + f x
  sums f =
      let one = ids_one (λ j. f (seat st j)) (λ j. f (seat new j)) id lt (λ j ne. let e = ap f (turns.others j ne) in omega (arith, e)) in
      let here = ap f turns.here in
      omega (arith, one, here)

-- the seats of two ids, where a child is born
pub two_use : (st new : State) (id child : ℕ) (x y : Seat) → id < 64 → id ≢ child → TwoChanged st new id child x y
    → (all_ids (λ j. tables_at (seat new j)) + tables_at (seat st id) ≤ all_ids (λ j. tables_at (seat st j)) + tables_at x + tables_at y)
    × (all_ids (λ j. aside_at (seat new j)) + aside_at (seat st id) ≤ all_ids (λ j. aside_at (seat st j)) + aside_at x + aside_at y)
two_use st new id child x y lt ne bears = (sums tables_at, sums aside_at) where
  sums : (f : Seat → ℕ) → all_ids (λ j. f (seat new j)) + f (seat st id) ≤ all_ids (λ j. f (seat st j)) + f x + f y
  sums f =
      let there = ap f bears.child_is in
      let two = ids_two (λ j. f (seat st j)) (λ j. f (seat new j)) id child (f y) lt ne (omega (arith, there)) (λ j off away. let e = ap f (bears.others j off away) in omega (arith, e)) in
      let here = ap f bears.parent_is in
      omega (arith, two, here)

-- the colours that are used, where a book keeps its old ones or loses some
pub colours_put : (bs : Books) (id : ℕ) (b : Book) (fresh k : ℕ) → fresh ≡ bs.fresh + k → id < length bs.list → ((c : ℕ) → c < bs.fresh → times c b.colours ≤ times c (get_or bs.list id no_book).colours)
    → colours_used (record (put_book id b bs) { fresh = fresh }) ≤ colours_used bs + k
colours_put bs id b fresh k is lt h = colours_grow bs (record (put_book id b bs) { fresh = fresh }) k is (λ c below pos. let put = pages_put c bs id b fresh lt in let most = h c below in omega (arith, pos, put, most))

-- the colours that are used, where a child gets a book of old colours of its parent and new ones
pub colours_born : (bs : Books) (id child : ℕ) (p c : Book) (k : ℕ) → id < length bs.list → child < length bs.list → id ≢ child → p.colours ≡ (get_or bs.list id no_book).colours
    → ((x : ℕ) → x < bs.fresh → times x c.colours ≤ times x p.colours) → colours_used (record { list = set (set bs.list child c) id p; fresh = bs.fresh + k }) ≤ colours_used bs + k
colours_born bs id child p c k lt high ne same h =
    let mid : Books = record bs { list = set bs.list child c } in
    let at : get_or mid.list id no_book ≡ get_or bs.list id no_book = get_or-set_other bs.list child id c no_book ne in
    colours_grow bs (record { list = set mid.list id p; fresh = bs.fresh + k }) k refl
    (λ x below pos.
    let first = pages_put x bs child c bs.fresh high in
    let inside : id < length mid.list = omega (arith, length-set bs.list child c) in
    let then = pages_put x mid id p (bs.fresh + k) inside in
    let old = ap (λ (b : Book). times x b.colours) at in
    let kept = ap (times x) same in
    let least = pages_least x bs id lt in
    let most = h x below in
    omega (arith, pos, first, then, old, kept, least, most))
