-- What the commit of a clone leaves of the seats.
use Rattle.std.proofs.Common.{◌≡◌, ◌≢◌, ℕ, ◌+◌, ◌<◌, true, List, [], ◌∷◌, set, None, refl, sym, ap, ◌∙◌, arith}
use Rattle.std.specs.Prelude.{option_map}
use Rattle.std.specs.FinMap as map
use Rattle.std.proofs.lemmas.List.{length-set, get_or-set_other, get_or-set_same}
use Rattle.neph_base.specs.declared.reply.Entry.TheVariants.{Commit}
use Rattle.neph_model.specs.declared.script.Script.{Script}
use Rattle.neph_model.specs.declared.life.Life.{Life}
use Rattle.neph_model.specs.declared.life.Guest.{Guest}
use Rattle.neph_model.specs.declared.book.Book.{Book}
use Rattle.neph_model.specs.declared.book.Stage.TheVariants.{Ready}
use Rattle.neph_model.specs.Machine.{no_own, no_guest, guest_at, exposed_at, but_handles}
use Rattle.neph_model.specs.Births.{commit, parent_own, child_own, child_guest, child_exposed}
use Rattle.neph_model.specs.Step.{Outcome, shared_commit, child_made, bear}
use Rattle.neph_model.specs.Books.{State, no_book, book_of, child_colours, new_count}
use Rattle.neph_model.specs.Turns.{Done, noting, books_committed, commit_turn}
use Rattle.neph_runs.specs.Orderly.{Seat, outline, seat, HasPlaces}
use Rattle.neph_runs.proofs.Sound.{child_outline}
use Rattle.neph_runs.proofs.Seats.{same_seat}

-- what a commit leaves: every other seat as it was, and these two so
pub record TwoChanged (st new : State) (id child : ℕ) (x y : Seat) : Type 0 where
  pub places : HasPlaces new
  pub others : (j : ℕ) → j ≢ id → j ≢ child → seat new j ≡ seat st j
  pub parent_is : seat new id ≡ x
  pub child_is : seat new child ≡ y

-- the seat of a parent behind its commit
abbrev pub parent_seat : Seat → Seat
parent_seat x = record x { own = parent_own x.own; guest = record x.guest { begun = [] }; book = record x.book { stage = Ready } }

-- the seat of its child
abbrev pub child_seat : ℕ → ℕ → ℕ → Seat → Seat
child_seat id child fresh x =
    record {
      own = child_own child id x.own;
      life = option_map (λ (l : Life). record l { parent = id }) x.life;
      guest = child_guest x.guest;
      exposed = x.exposed;
      book = book_of (child_colours x.own 0 x.book.colours fresh);
    }

module _ (s : Script) (st : State) (id : ℕ) where
  abbrev x : Seat
  x = seat st id

  -- an entry that commits the first of these children
  abbrev commits : List ℕ → Done
  commits begun =
      let m = st.machine in
      let line = x.own.line in
      let did = shared_commit m.shared id begun in
      let out : Outcome = record { machine = record { own = set (bear m.own id x.own (child_made (Commit id line) did.reply)) id (parent_own x.own); shared = did.shared }; reply = did.reply } in
      noting (Commit id line) out (books_committed id x.own did.reply st.books)

  pub turn_commits : commit_turn s st id ≡ commits x.guest.begun
  turn_commits = refl

  -- the state behind the commit of this child, the only one
  abbrev pub born : ℕ → State
  born child =
      let m = st.machine in
      let bs = st.books in
      record {
        machine = record { own = set (set m.own child (child_own child id x.own)) id (parent_own x.own); shared = commit m.shared id child [] };
        books = record { list = set (set bs.list child (book_of (child_colours x.own 0 x.book.colours bs.fresh))) id (record x.book { stage = Ready }); fresh = bs.fresh + new_count x.own 0 x.book.colours };
      }

  pub commit_born : (child : ℕ) → x.guest.begun ≡ child ∷ [] → ((commit_turn s st id).state ≡ born child) × ((commit_turn s st id).moved ≡ true)
  commit_born child e = (ap (λ l. (commits l).state) e ∙ books child, ap (λ l. (commits l).moved) e) where
    books : (child : ℕ) → (commits (child ∷ [])).state ≡ born child
    books child = refl

  pub bears : (child : ℕ) → HasPlaces st → id < 64 → child < 64 → id ≢ child → TwoChanged st (born child) id child (parent_seat x) (child_seat id child st.books.fresh x)
  bears child places low high ne =
      let m = st.machine in
      let sh = m.shared in
      let bs = st.books.list in
      let co = child_own child id x.own in
      let po = parent_own x.own in
      let cl = option_map (λ (l : Life). record l { parent = id }) x.life in
      let g = guest_at id sh.tables in
      let pg : Guest = record g { begun = [] } in
      let cg : Guest = child_guest g in
      let ce = child_exposed (exposed_at id sh.pages) in
      let cb = book_of (child_colours x.own 0 x.book.colours st.books.fresh) in
      let pb : Book = record x.book { stage = Ready } in
      let far : child ≢ id = λ e. ne (sym e) in
      record {
        places = record {
          own = length-set (set m.own child co) id po ∙ length-set m.own child co ∙ places.own;
          lives = length-set sh.lives child cl ∙ places.lives;
          guests = length-set (set sh.tables.guests id pg) child cg ∙ length-set sh.tables.guests id pg ∙ places.guests;
          exposed = length-set sh.pages child ce ∙ places.exposed;
          books = length-set (set bs child cb) id pb ∙ length-set bs child cb ∙ places.books;
        };
        others = λ j off away. same_seat _ _ (get_or-set_other (set m.own child co) id j po no_own off ∙ get_or-set_other m.own child j co no_own away) (get_or-set_other sh.lives child j cl None away)
            (ap but_handles (get_or-set_other (set sh.tables.guests id pg) child j cg no_guest away ∙ get_or-set_other sh.tables.guests id j pg no_guest off)) (ap outline (get_or-set_other sh.pages child j ce map.empty away))
            (get_or-set_other (set bs child cb) id j pb no_book off ∙ get_or-set_other bs child j cb no_book away);
        parent_is = same_seat _ _ (get_or-set_same (set m.own child co) id po no_own (omega (arith, length-set m.own child co, places.own))) (get_or-set_other sh.lives child id cl None ne)
            (ap but_handles (get_or-set_other (set sh.tables.guests id pg) child id cg no_guest ne ∙ get_or-set_same sh.tables.guests id pg no_guest (omega (arith, places.guests)))) (ap outline (get_or-set_other sh.pages child id ce map.empty ne))
            (get_or-set_same (set bs child cb) id pb no_book (omega (arith, length-set bs child cb, places.books)));
        child_is = same_seat _ _ (get_or-set_other (set m.own child co) id child po no_own far ∙ get_or-set_same m.own child co no_own (omega (arith, places.own))) (get_or-set_same sh.lives child cl None (omega (arith, places.lives)))
            (ap but_handles (get_or-set_same (set sh.tables.guests id pg) child cg no_guest (omega (arith, length-set sh.tables.guests id pg, places.guests)))) (ap outline (get_or-set_same sh.pages child ce map.empty (omega (arith, places.exposed))) ∙ child_outline (exposed_at id sh.pages))
            (get_or-set_other (set bs child cb) id child pb no_book far ∙ get_or-set_same bs child cb no_book (omega (arith, places.books)));
      }
