-- Each turn that does something leaves less to do, and each other leaves the state as it was.
use Rattle.std.proofs.Common.{◌≡◌, ℕ, ◌+◌, ◌-◌, ◌*◌, ◌<◌, ◌≤◌, true, false, cond, inl, inr, List, [], ◌∷◌, ◌++◌, length, get_or, set, Option, Some, None, refl, sym, ap, subst, ◌∙◌, arith}
use Rattle.std.specs.Prelude.{⊤, slice_get}
use Rattle.std.specs.Option.{is_some}
use Rattle.std.specs.FinMap as fm
use Rattle.std.proofs.lemmas.Bool.{false≢true}
use Rattle.std.proofs.lemmas.List.{length-set}
use Rattle.std.specs.List.{range_with_len}
use Rattle.std.proofs.lemmas.List.Sums.{count_by-le-length}
use Rattle.std.proofs.lemmas.List.FromFn.{length-range_with_len}
use Rattle.std.proofs.lemmas.Option.{slice_get_within, get_or_from_slice_get}
use Rattle.neph_base.specs.declared.reply.Entry.TheVariants.{Line}
use Rattle.neph_base.specs.declared.reply.Reply.{Reply}
use Rattle.neph_base.specs.declared.reply.Reply.TheVariants as reply
use Rattle.neph_model.specs.declared.own.Own.{Own}
use Rattle.neph_model.specs.declared.script.Script.{Script}
use Rattle.neph_model.specs.declared.script.Program.{Program}
use Rattle.neph_model.specs.declared.life.Life.{Life}
use Rattle.neph_model.specs.declared.life.Guest.{Guest}
use Rattle.neph_model.specs.declared.book.Book.{Book}
use Rattle.neph_model.specs.declared.book.Stage.{Stage}
use Rattle.neph_model.specs.declared.book.Stage.TheVariants.{Ready, Copying, Forking}
use Rattle.neph_model.specs.declared.book.Spends.{Spends}
use Rattle.neph_model.specs.declared.book.Spends.TheVariants.{Nothing, Leaf, Copy}
use Rattle.neph_model.specs.declared.told.Told.{Told}
use Rattle.neph_model.specs.WellFormed.{IsWellFormed, IsWellFormedProgram}
use Rattle.neph_model.specs.Programs.{commands_of, program_at}
use Rattle.neph_model.specs.Machine.{no_own, no_guest, own_at, exposed_at, program_of, guest_at, but_handles}
use Rattle.neph_model.specs.Births.{end_domain}
use Rattle.neph_model.specs.Trap.{begin_clone}
use Rattle.neph_model.specs.Step.{Outcome, step}
use Rattle.neph_model.specs.Books.{State, put_book, book_spent, fresh_spent, goes_shared, shared_count}
use Rattle.neph_model.specs.Turns.{Done, nothing, quietly, book_after, books_after, line_turn}
use Rattle.neph_runs.specs.Orderly.{Seat, seat, ForksWell, IsOrderlyAt, IsOrderly, outline}
use Rattle.neph_runs.proofs.Sums.{same_or, ids_one}
use Rattle.neph_runs.proofs.Lines.{GoesOn, Goes, Ends, Begins, line_kind}
use Rattle.neph_runs.specs.Work.{lines_left, spare_left, stage_work, size_by, work_at, work_left}
use Rattle.neph_runs.proofs.Seats.{OneChanged, book_turns, goes_turns, ends_turns, begins_turns}

-- the id of the next child
abbrev pub next_id : State → ℕ
next_id st = st.machine.shared.tables.next

-- how many clones wait for their second stage
abbrev pub waits : State → ℕ
waits st = length st.machine.shared.tables.waiting

-- what some turns leave: less work where one did something, and the same state where none did
pub record Falls (s : Script) (st : State) (d : Done) : Type 0 where
  pub orderly : IsOrderly d.state
  pub smaller : d.moved ≡ true → work_left s d.state < work_left s st
  pub same : d.moved ≡ false → d.state ≡ st

pub rests : (s : Script) (st : State) → IsOrderly st → Falls s st (nothing st)
rests s st orderly = record { orderly = orderly; smaller = λ e. absurd (false≢true e); same = λ e. refl }

-- a turn that does something
pub works : (s : Script) (st : State) (d : Done) → d.moved ≡ true → IsOrderly d.state → work_left s d.state < work_left s st → Falls s st d
works s st d moved orderly less = record { orderly = orderly; smaller = λ e. less; same = λ e. absurd (false≢true (sym e ∙ moved)) }

forks_later : (id next later : ℕ) (begun : List ℕ) (stage : Stage) → next ≤ later → ForksWell id next begun stage → ForksWell id later begun stage
forks_later id next later begun Ready le h = h
forks_later id next later begun Copying le h = h
forks_later id next later begun (Forking left) le h = (h.0, (h.1.0, h.1.1, omega (arith, h.1.2)))

orderly_later : (id next later : ℕ) (x : Seat) → next ≤ later → IsOrderlyAt id next x → IsOrderlyAt id later x
orderly_later id next later x le h =
    record { low = h.low; high = omega (arith, h.high); forks = forks_later id next later x.guest.begun x.book.stage le h.forks; pages = h.pages; colours = h.colours }

-- an id of a live domain is one of the 63
pub live_within : (st : State) (id : ℕ) → IsOrderly st → is_some (seat st id).life ≡ true → id < 64
live_within st id orderly live = let h = orderly.seats id live in omega (arith, h.high, orderly.high)

-- a state in which the seat of one id changed
pub one_orderly : (st new : State) (id : ℕ) (x : Seat) → IsOrderly st → OneChanged st new id x → next_id st ≤ next_id new → next_id new ≤ 64 → (is_some x.life ≡ true → IsOrderlyAt id (next_id new) x) → IsOrderly new
one_orderly st new id x orderly turns le high here =
    record {
      places = turns.places;
      low = omega (arith, orderly.low);
      high = high;
      seats = λ j. same_or {P = is_some (seat new j).life ≡ true → IsOrderlyAt j (next_id new) (seat new j)} j id
          (λ e live.
          let is : seat new j ≡ x = ap (seat new) e ∙ turns.here in
          subst (λ i. IsOrderlyAt i (next_id new) (seat new j)) (sym e) (subst (IsOrderlyAt id (next_id new)) (sym is) (here (ap (λ (v : Seat). is_some v.life) (sym is) ∙ live))))
          (λ ne live.
          let is = turns.others j ne in
          subst (IsOrderlyAt j (next_id new)) (sym is) (orderly_later j (next_id st) (next_id new) (seat st j) le (orderly.seats j (ap (λ (v : Seat). is_some v.life) (sym is) ∙ live))));
    }

pub one_work : (s : Script) (st new : State) (id : ℕ) (x : Seat) → OneChanged st new id x → id < 64
    → 4096 * (64 - next_id new) + work_at s x + waits new < 4096 * (64 - next_id st) + work_at s (seat st id) + waits st → work_left s new < work_left s st
one_work s st new id x turns lt less =
    let f : ℕ → ℕ = λ j. work_at s (seat st j) in
    let g : ℕ → ℕ = λ j. work_at s (seat new j) in
    let sums = ids_one f g id lt (λ j ne. let e = ap (work_at s) (turns.others j ne) in omega (arith, e)) in
    let here = ap (work_at s) turns.here in
    omega (arith, sums, here, less)

few_commands : (s : Script) → IsWellFormed s → (n : ℕ) (p : Option Program) → slice_get s.programs n ≡ p → length (commands_of p) ≤ 512
few_commands s well n None found = omega arith
few_commands s well n (Some p) found =
    let here : get_or s.programs n p ≡ p = get_or_from_slice_get s.programs n p p found in
    let formed : IsWellFormedProgram p = subst IsWellFormedProgram here (well.programs n p (slice_get_within s.programs n p found)) in
    formed.few

size_small : (s : Script) → IsWellFormed s → (life : Option Life) → size_by s life ≤ 512
size_small s well life = few_commands s well (program_of life) (program_at s (program_of life)) refl

pub spare_small : (b : Book) → spare_left b ≤ 1
spare_small b = elim b.spare as (λ v. cond v 0 1 ≤ 1) [ true ↦ omega arith | false ↦ omega arith ]

-- a domain that is at its line, and doesn't clone
abbrev pub AtLine : Stage → Type 0
AtLine Ready = ⊤
AtLine Copying = ⊤
AtLine (Forking left) = ⊥

line_least : (lines : ℕ) (b : Book) (stage : Stage) → AtLine stage → 4 * lines ≤ stage_work lines b stage
line_least lines b Ready h = omega arith
line_least lines b Copying h = omega arith
line_least lines b (Forking left) h = absurd h

pub none_begun : (id next : ℕ) (begun : List ℕ) (stage : Stage) → AtLine stage → ForksWell id next begun stage → begun ≡ []
none_begun id next begun Ready h f = f
none_begun id next begun Copying h f = f
none_begun id next begun (Forking left) h f = absurd h

pub live_work : (s : Script) (x : Seat) → is_some x.life ≡ true → work_at s x ≡ stage_work (lines_left (size_by s x.life) x.own.line) x.book x.book.stage
live_work s x live = ap (λ b. cond b (stage_work (lines_left (size_by s x.life) x.own.line) x.book x.book.stage) 0) live

spent_size : (spends : Spends) (fresh : ℕ) (b : Book) → length (book_spent spends fresh b).colours ≡ length b.colours
spent_size Nothing fresh b = refl
spent_size Leaf fresh b = refl
spent_size (Copy pfn) fresh b = length-set b.colours pfn fresh

pub plain_book : (o : Own) (r : Reply) (b : Book) → GoesOn r → book_after o r b ≡ record b { stage = Ready }
plain_book o reply.Done b on = refl
plain_book o reply.Go b on = refl
plain_book o reply.On b on = refl
plain_book o reply.Ended b on = absurd on
plain_book o (reply.Number n) b on = refl
plain_book o (reply.Begun c) b on = absurd on
plain_book o (reply.Child c) b on = refl
plain_book o (reply.Bytes bs) b on = refl
plain_book o (reply.Refused why) b on = refl

shared_small : (o : Own) → shared_count o ≤ length o.pages
shared_small o = omega (arith, count_by-le-length (goes_shared o) (range_with_len 0 (length o.pages)), length-range_with_len 0 (length o.pages))

-- the state behind a line with this machine and reply
abbrev pub after_line : State → ℕ → Spends → Outcome → State
after_line st id spends out = record { machine = out.machine; books = books_after id (own_at id st.machine.own) spends out.reply st.books }

-- less is left, in order
record Less (s : Script) (st new : State) : Type 0 where
  orderly : IsOrderly new
  smaller : work_left s new < work_left s st

module _ (s : Script) (well : IsWellFormed s) (st : State) (id : ℕ) (orderly : IsOrderly st) (live : is_some (seat st id).life ≡ true) where
  abbrev x : Seat
  x = seat st id

  within : id < 64
  within = live_within st id orderly live

  is_orderly : IsOrderlyAt id (next_id st) x
  is_orderly = orderly.seats id live

  -- another book, behind which less is left
  pub quiet_falls : (b : Book) (steps : ℕ) → length b.colours ≡ length x.book.colours → ForksWell id (next_id st) x.guest.begun b.stage
      → (let lines = lines_left (size_by s x.life) x.own.line in stage_work lines b b.stage < stage_work lines x.book x.book.stage) → Falls s st (quietly st (put_book id b st.books) steps)
  quiet_falls b steps same forks less =
      let y : Seat = record x { book = b } in
      let h = is_orderly in
      let turns = book_turns st id orderly.places within b st.books.fresh in
      let new = (quietly st (put_book id b st.books) steps).state in
      let was = live_work s x live in
      let is = live_work s y live in
      works s st (quietly st (put_book id b st.books) steps) refl
      (one_orderly st new id y orderly turns (omega arith) orderly.high (λ e. record { low = h.low; high = h.high; forks = forks; pages = h.pages; colours = same ∙ h.colours }))
      (one_work s st new id y turns within (omega (arith, was, is, less)))

  -- what is left of a domain at its line
  line_left : AtLine x.book.stage → 4 * lines_left (size_by s x.life) x.own.line ≤ work_at s x
  line_left at =
      let was = live_work s x live in
      let least = line_least (lines_left (size_by s x.life) x.own.line) x.book x.book.stage at in
      omega (arith, was, least)

  ends_less : (spends : Spends) (out : Outcome) → AtLine x.book.stage → Ends st.machine id out → Less s st (after_line st id spends out)
  ends_less spends out at e = subst (λ m. Less s st (record { machine = m; books = books_after id x.own spends out.reply st.books })) (sym e.machine) ended where
    ended : Less s st (record { machine = record { own = set st.machine.own id no_own; shared = end_domain st.machine.shared id }; books = books_after id x.own spends out.reply st.books })
    ended =
        let b = book_after x.own out.reply (book_spent spends st.books.fresh x.book) in
        let fresh = fresh_spent spends st.books.fresh in
        let y : Seat = record { own = no_own; life = None; guest = no_guest; exposed = outline fm.empty; book = b } in
        let new : State = record { machine = record { own = set st.machine.own id no_own; shared = end_domain st.machine.shared id }; books = books_after id x.own spends out.reply st.books } in
        let turns = ends_turns st id orderly.places within b fresh in
        let least = line_left at in
        record {
          orderly = one_orderly st new id y orderly turns (omega arith) orderly.high (λ l. absurd (false≢true l));
          smaller = one_work s st new id y turns within (omega (arith, least));
        }

  goes_less : (spends : Spends) (out : Outcome) → AtLine x.book.stage → x.own.line < size_by s x.life → Goes st.machine id out → Less s st (after_line st id spends out)
  goes_less spends out at inside g =
      let b0 = book_spent spends st.books.fresh x.book in
      let b = book_after x.own out.reply b0 in
      let plain : b ≡ record b0 { stage = Ready } = plain_book x.own out.reply b0 g.on in
      let fresh = fresh_spent spends st.books.fresh in
      let y : Seat = record x { own = g.after; guest = but_handles (guest_at id out.machine.shared.tables); exposed = outline (exposed_at id out.machine.shared.pages); book = b } in
      let z : Seat = record y { book = record b0 { stage = Ready } } in
      let same : y ≡ z = ap (λ (v : Book). record y { book = v }) plain in
      let new = after_line st id spends out in
      let turns = goes_turns st id orderly.places within out g b fresh in
      let next : next_id new ≡ next_id st = g.tables.next in
      let waiting : waits new ≡ waits st = ap (λ l. length l) g.tables.waiting in
      let h = is_orderly in
      let least = line_left at in
      let left : work_at s y ≡ work_at s z = ap (work_at s) same in
      let then : work_at s z ≡ _ = live_work s z live in
      let small = spare_small b0 in
      let later = g.later in
      record {
        orderly = one_orderly st new id y orderly turns (omega (arith, next)) (omega (arith, next, orderly.high))
            (λ l.
            subst (IsOrderlyAt id (next_id new)) (sym same)
            (record {
              low = h.low;
              high = omega (arith, h.high, next);
              forks = ap (λ (v : Guest). v.begun) g.tables.here ∙ none_begun id (next_id st) x.guest.begun x.book.stage at h.forks;
              pages = omega (arith, g.pages, h.pages);
              colours = spent_size spends st.books.fresh x.book ∙ h.colours ∙ sym g.pages;
            }));
        smaller = one_work s st new id y turns within (omega (arith, next, waiting, least, left, then, small, later, inside));
      }

  -- what the begin of a clone comes to
  abbrev begun : Outcome
  begun = record { machine = record { own = set st.machine.own id (record x.own { refused = false }); shared = record st.machine.shared { tables = begin_clone st.machine.shared.tables id (guest_at id st.machine.shared.tables) } }; reply = reply.Begun (next_id st) }

  begins_less : (told : Told) (spends : Spends) (out : Outcome) → AtLine x.book.stage → Begins st.machine id told out → Less s st (after_line st id spends out)
  begins_less told spends out at e = subst (λ o. Less s st (after_line st id spends o)) (sym whole) began where
    whole : out ≡ begun
    whole = ap (λ m. record { machine = m; reply = out.reply }) e.machine ∙ ap (λ r. record { machine = begun.machine; reply = r }) e.reply

    began : Less s st (after_line st id spends begun)
    began =
        let b0 = book_spent spends st.books.fresh x.book in
        let b : Book = record b0 { stage = Forking (shared_count x.own) } in
        let fresh = fresh_spent spends st.books.fresh in
        let g : Guest = record (guest_at id st.machine.shared.tables) { accepted = x.guest.accepted + 1; begun = x.guest.begun ++ next_id st ∷ [] } in
        let o : Own = record x.own { refused = false } in
        let y : Seat = record x { own = o; guest = but_handles g; book = b } in
        let new = after_line st id spends begun in
        let turns = begins_turns st id orderly.places within g o (next_id st + 1) b fresh in
        let h = is_orderly in
        let none = none_begun id (next_id st) x.guest.begun x.book.stage at h.forks in
        let least = line_left at in
        let left = live_work s y live in
        let size = size_small s well x.life in
        let few = shared_small x.own in
        let room = e.room in
        record {
          orderly = one_orderly st new id y orderly turns (omega arith) (omega arith)
              (λ l.
              record {
                low = h.low;
                high = omega (arith, h.high);
                forks = (next_id st, (ap (λ l. l ++ next_id st ∷ []) none, h.high, omega arith));
                pages = h.pages;
                colours = spent_size spends st.books.fresh x.book ∙ h.colours;
              });
          smaller = one_work s st new id y turns within (omega (arith, least, left, size, few, room, h.pages));
        }

  pub line_falls : (told : Told) (spends : Spends) → AtLine x.book.stage → Falls s st (line_turn s st id told spends)
  line_falls told spends at =
      let out = step s st.machine (Line id x.own.line) told in
      let less : Less s st (after_line st id spends out) = elim (line_kind s well st.machine id told) as (λ k. Less s st (after_line st id spends out)) [
        | inl e ↦ ends_less spends out at e
        | inr k ↦ elim k.1 as (λ y. Less s st (after_line st id spends out)) [ inl g ↦ goes_less spends out at k.0 g | inr e ↦ elim e as (λ y. Less s st (after_line st id spends out)) [ inl e ↦ ends_less spends out at e | inr e ↦ begins_less told spends out at e ] ]
      ] in
      works s st (line_turn s st id told spends) refl less.orderly less.smaller
