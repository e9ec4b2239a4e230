-- What holds of each state that the turns come to.
use Rattle.std.specs.Prelude.{ℕ, Bool, ◌≡◌, ◌<◌, ◌≤◌, List, [], ◌∷◌, length, Option, true, is_some}
use Rattle.std.specs.FinMap as fm
use Rattle.neph_model.specs.declared.own.Own.{Own}
use Rattle.neph_model.specs.declared.life.Life.{Life}
use Rattle.neph_model.specs.declared.life.Guest.{Guest}
use Rattle.neph_model.specs.declared.book.Book.{Book}
use Rattle.neph_model.specs.declared.book.Stage.{Stage}
use Rattle.neph_model.specs.declared.book.Stage.TheVariants.{Ready, Copying, Forking}
use Rattle.neph_model.specs.Machine.{Exposed, but_handles, own_at, life_at, guest_at, exposed_at}
use Rattle.neph_model.specs.Books.{State, book_at}

-- which pages of a domain are exposed, and how many
pub record Outline : Type 0 where
  pub has : ℕ → Bool
  pub count : ℕ

abbrev pub outline : Exposed → Outline
outline e = record { has = λ pfn. is_some (fm.get e pfn); count = fm.len e }

-- what is kept of an id, but for its handles and the bytes of its exposed pages
pub record Seat : Type 0 where
  pub own : Own
  pub life : Option Life
  pub guest : Guest
  pub exposed : Outline
  pub book : Book

-- what is kept of an id in a state
abbrev pub seat : State → ℕ → Seat
seat st id =
    let sh = st.machine.shared in
    record {
      own = own_at id st.machine.own;
      life = life_at id sh.lives;
      guest = but_handles (guest_at id sh.tables);
      exposed = outline (exposed_at id sh.pages);
      book =
          book_at id st.books;
    }

-- there is a place for each id from 0 to 63
pub record HasPlaces (st : State) : Type 0 where
  pub own : length st.machine.own ≡ 64
  pub lives : length st.machine.shared.lives ≡ 64
  pub guests : length st.machine.shared.tables.guests ≡ 64
  pub exposed : length st.machine.shared.pages ≡ 64
  pub books : length st.books.list ≡ 64

-- The children that a domain has begun: one of a greater id that was given, where page steps or the
-- commit are left, and else none.
abbrev pub ForksWell : ℕ → ℕ → List ℕ → Stage → Type 0
ForksWell id next begun Ready = begun ≡ []
ForksWell id next begun Copying = begun ≡ []
ForksWell id next begun (Forking left) =
    (child : ℕ) × ((begun ≡ child ∷ []) × (id < child) × (child < next))

-- a live domain with an id below the next one, of at most 1024 pages, with a colour for each
pub record IsOrderlyAt (id next : ℕ) (x : Seat) : Type 0 where
  pub low : 0 < id
  pub high : id < next
  pub forks : ForksWell id next x.guest.begun x.book.stage
  pub pages : length x.own.pages ≤ 1024
  pub colours : length x.book.colours ≡ length x.own.pages

-- a place for each id, and each live domain in order
pub record IsOrderly (st : State) : Type 0 where
  pub places : HasPlaces st
  pub low : 0 < st.machine.shared.tables.next
  pub high : st.machine.shared.tables.next ≤ 64
  pub seats : (id : ℕ) → is_some (seat st id).life ≡ true
      → IsOrderlyAt id st.machine.shared.tables.next (seat st id)
