-- What a change of one id's half, birth, guest or book leaves of the seats.
use Rattle.std.proofs.Common.{◌≡◌, ◌≢◌, ℕ, ◌<◌, length, set, Option, None, refl, ap, ◌∙◌, arith}
use Rattle.std.specs.FinMap as map
use Rattle.std.proofs.lemmas.List.{length-set, get_or-set_other, get_or-set_same}
use Rattle.neph_model.specs.declared.own.Own.{Own}
use Rattle.neph_model.specs.declared.life.Life.{Life}
use Rattle.neph_model.specs.declared.life.Guest.{Guest}
use Rattle.neph_model.specs.declared.book.Book.{Book}
use Rattle.neph_model.specs.Machine.{no_own, no_guest, own_at, life_at, guest_at, exposed_at, but_handles}
use Rattle.neph_model.specs.Births.{end_domain}
use Rattle.neph_model.specs.Step.{Outcome}
use Rattle.neph_model.specs.Books.{State, no_book, put_book}
use Rattle.neph_runs.specs.Orderly.{Seat, Outline, outline, seat, HasPlaces}
use Rattle.neph_runs.proofs.Lines.{Goes}

pub same_seat : (x y : Seat) → x.own ≡ y.own → x.life ≡ y.life → x.guest ≡ y.guest → x.exposed ≡ y.exposed → x.book ≡ y.book → x ≡ y
same_seat x y o l g e b =
    ap (λ (v : Own). record { own = v; life = x.life; guest = x.guest; exposed = x.exposed; book = x.book }) o ∙ ap (λ (v : Option Life). record { own = y.own; life = v; guest = x.guest; exposed = x.exposed; book = x.book }) l
    ∙ ap (λ (v : Guest). record { own = y.own; life = y.life; guest = v; exposed = x.exposed; book = x.book }) g ∙ ap (λ (v : Outline). record { own = y.own; life = y.life; guest = y.guest; exposed = v; book = x.book }) e
    ∙ ap (λ (v : Book). record { own = y.own; life = y.life; guest = y.guest; exposed = y.exposed; book = v }) b

-- what one change of an id leaves: every other seat as it was, and this one so
pub record OneChanged (st new : State) (id : ℕ) (x : Seat) : Type 0 where
  pub places : HasPlaces new
  pub others : (j : ℕ) → j ≢ id → seat new j ≡ seat st j
  pub here : seat new id ≡ x

module _ (st : State) (id : ℕ) (places : HasPlaces st) (within : id < 64) where
  -- another book
  pub book_turns : (b : Book) (fresh : ℕ) → OneChanged st (record st { books = record (put_book id b st.books) { fresh = fresh } }) id (record (seat st id) { book = b })
  book_turns b fresh =
      record {
        places = record { own = places.own; lives = places.lives; guests = places.guests; exposed = places.exposed; books = length-set st.books.list id b ∙ places.books };
        others = λ j ne. same_seat _ _ refl refl refl refl (get_or-set_other st.books.list id j b no_book ne);
        here = same_seat _ _ refl refl refl refl (get_or-set_same st.books.list id b no_book (omega (arith, places.books)));
      }

  -- a line behind which its domain goes on
  pub goes_turns : (out : Outcome) (goes : Goes st.machine id out) (b : Book) (fresh : ℕ)
      → OneChanged st (record { machine = out.machine; books = record (put_book id b st.books) { fresh = fresh } }) id
      (record (seat st id) { own = goes.after; guest = but_handles (guest_at id out.machine.shared.tables); exposed = outline (exposed_at id out.machine.shared.pages); book = b })
  goes_turns out goes b fresh =
      let owns = goes.own in
      record {
        places = record {
          own = ap (λ l. length l) owns ∙ length-set st.machine.own id goes.after ∙ places.own;
          lives = ap (λ l. length l) goes.lives ∙ places.lives;
          guests = goes.tables.guests ∙ places.guests;
          exposed = goes.exposed ∙ places.exposed;
          books = length-set st.books.list id b ∙ places.books;
        };
        others = λ j ne. same_seat _ _ (ap (own_at j) owns ∙ get_or-set_other st.machine.own id j goes.after no_own ne) (ap (life_at j) goes.lives) (goes.tables.each j ne) (goes.others j ne) (get_or-set_other st.books.list id j b no_book ne);
        here = same_seat _ _ (ap (own_at id) owns ∙ get_or-set_same st.machine.own id goes.after no_own (omega (arith, places.own))) (ap (life_at id) goes.lives) refl refl (get_or-set_same st.books.list id b no_book (omega (arith, places.books)));
      }

  -- the end of a domain
  pub ends_turns : (b : Book) (fresh : ℕ)
      → OneChanged st (record { machine = record { own = set st.machine.own id no_own; shared = end_domain st.machine.shared id }; books = record (put_book id b st.books) { fresh = fresh } }) id
      (record { own = no_own; life = None; guest = no_guest; exposed = outline map.empty; book = b })
  ends_turns b fresh =
      let sh = st.machine.shared in
      record {
        places = record {
          own = length-set st.machine.own id no_own ∙ places.own;
          lives = length-set sh.lives id None ∙ places.lives;
          guests = length-set sh.tables.guests id no_guest ∙ places.guests;
          exposed = length-set sh.pages id map.empty ∙ places.exposed;
          books = length-set st.books.list id b ∙ places.books;
        };
        others = λ j ne. same_seat _ _ (get_or-set_other st.machine.own id j no_own no_own ne) (get_or-set_other sh.lives id j None None ne) (ap but_handles (get_or-set_other sh.tables.guests id j no_guest no_guest ne)) (ap outline (get_or-set_other sh.pages id j map.empty map.empty ne)) (get_or-set_other st.books.list id j b no_book ne);
        here = same_seat _ _ (get_or-set_same st.machine.own id no_own no_own (omega (arith, places.own))) (get_or-set_same sh.lives id None None (omega (arith, places.lives))) (ap but_handles (get_or-set_same sh.tables.guests id no_guest no_guest (omega (arith, places.guests))))
            (ap outline (get_or-set_same sh.pages id map.empty map.empty (omega (arith, places.exposed)))) (get_or-set_same st.books.list id b no_book (omega (arith, places.books)));
      }

  -- the begin of a clone
  pub begins_turns : (g : Guest) (o : Own) (next : ℕ) (b : Book) (fresh : ℕ)
      → OneChanged st (record { machine = record { own = set st.machine.own id o; shared = record st.machine.shared { tables = record st.machine.shared.tables { guests = set st.machine.shared.tables.guests id g; next = next } } }; books = record (put_book id b st.books) { fresh = fresh } }) id
      (record (seat st id) { own = o; guest = but_handles g; book = b })
  begins_turns g o next b fresh =
      let sh = st.machine.shared in
      record {
        places = record {
          own = length-set st.machine.own id o ∙ places.own;
          lives = places.lives;
          guests = length-set sh.tables.guests id g ∙ places.guests;
          exposed = places.exposed;
          books = length-set st.books.list id b ∙ places.books;
        };
        others = λ j ne. same_seat _ _ (get_or-set_other st.machine.own id j o no_own ne) refl (ap but_handles (get_or-set_other sh.tables.guests id j g no_guest ne)) refl (get_or-set_other st.books.list id j b no_book ne);
        here = same_seat _ _ (get_or-set_same st.machine.own id o no_own (omega (arith, places.own))) refl (ap but_handles (get_or-set_same sh.tables.guests id g no_guest (omega (arith, places.guests)))) refl (get_or-set_same st.books.list id b no_book (omega (arith, places.books)));
      }
