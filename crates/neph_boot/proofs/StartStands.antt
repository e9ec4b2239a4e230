-- Behind the last of its domain lines a machine stands for the state at its script's start.
use Rattle.std.proofs.Common.{◌≡◌, ℕ, suc, Bool, true, false, List, [], ◌∷◌, length, get_or, Option, Some, None, refl, sym, ap, subst, ◌∙◌, arith}
use Rattle.std.specs.Prelude.{nat_lt}
use Rattle.std.proofs.lemmas.Bool.{ltb-true, ltb-false}
use Rattle.std.proofs.lemmas.List.{length-map, get_or_past}
use Rattle.neph_model.specs.declared.book.Book.{Book}
use Rattle.neph_model.specs.WellFormed.{IsWellFormed}
use Rattle.neph_model.specs.Books.{State, book_at, no_book, start_state}
use Rattle.neph_runs.specs.Orderly.{seat as part_at}
use Rattle.neph_pool.specs.Entries.{IsSoleAt}
use Rattle.neph_pool.specs.World.{World}
use Rattle.neph_memory.specs.Pages.{frame_at}
use Rattle.neph_guest.specs.declared.live.Live.{Live}
use Rattle.neph_rows.specs.Records.{Records, records_in, shared_of}
use Rattle.neph_heap.specs.Pages.{pages_in}
use Rattle.neph_accounts.specs.Heaps.{row_frames}
use Rattle.neph_accounts.specs.Colours.{IsStood}
use Rattle.neph_accounts.proofs.Starting.{stands_opening}
use Rattle.neph_machine.specs.declared.place.Place.{Place}
use Rattle.neph_machine.specs.declared.place.Place.TheVariants.{Empty, Flight as InFlight, Domain}
use Rattle.neph_machine.specs.declared.machine.Machine.{Machine}
use Rattle.neph_machine.specs.Places.{place_at}
use Rattle.neph_machine.specs.Rows.{frames_in, away_in, row_of, rows_of}
use Rattle.neph_machine.specs.StandsFor.{IsDomain, IsPlace, StandsFor}
use Rattle.neph_machine.specs.Surveyed.{IsSurveyed}
use Rattle.neph_machine.proofs.Accounts.{AreSeated}
use Rattle.neph_machine.proofs.Reached.{IsReached, start_reached, live_orderly}
use Rattle.neph_machine.proofs.OnePlace.{rows_long, row_is, row_past}
use Rattle.neph_boot.specs.Opening.{IsOpening}
use Rattle.neph_boot.proofs.StartLines.{opened_all}
use Rattle.neph_boot.proofs.SoleFrames.{frames_once}

-- how long a row is
row_length : (pages : List (Option ℕ)) (away : ℕ → ℕ) (pfn : ℕ) → length (row_frames pages away pfn) ≡ length pages
row_length [] away pfn = refl
row_length (None ∷ pages) away pfn = ap suc (row_length pages away (suc pfn))
row_length (Some f ∷ pages) away pfn = ap suc (row_length pages away (suc pfn))

module _ {Pool Seat : Type 0} (W : World Pool Seat) (m : Machine Pool Seat) (well : IsWellFormed m.script) (opening : IsOpening W m (length m.script.starts)) (registry : m.hv.registry ≡ records_in (start_state m.script).machine.shared) where
  reached_start : IsReached m.script (start_state m.script)
  reached_start = start_reached m.script well

  each_start : (id : ℕ) → IsPlace W m id (place_at id m.places.items) (part_at (start_state m.script))
  each_start id = subst (λ (st : State). IsPlace W m id (place_at id m.places.items) (part_at st)) (opened_all m.script) (opening.each id)

  -- all that it has but the colours
  seated : AreSeated W m (start_state m.script)
  seated = record {
    heap = opening.heap;
    shared =
        let r = (start_state m.script).machine.shared in
        sym (ap (λ (x : Records). shared_of x (pages_in (W.entries m.pool m.hv.heap.seat) m.hv.heap.stock.exposed)) registry ∙ ap (shared_of (records_in r)) (opening.pages ∙ ap (λ (st : State). st.machine.shared.pages) (opened_all m.script)));
    places = opening.places;
    names = opening.names;
    each = each_start;
  }

  -- each domain has the frames of its pages to itself
  sole : (id : ℕ) (l : Live Pool Seat) → place_at id m.places.items ≡ Domain l → (pfn f : ℕ) → frame_at l.local.own.map.pages pfn ≡ Some f → IsSoleAt (W.entries m.pool l.local.seat) f
  sole id l at pfn f e =
      let d : IsDomain W m id l (part_at (start_state m.script) id) = subst (λ (place : Place Pool Seat). IsPlace W m id place (part_at (start_state m.script))) at (each_start id) in
      (d.stands.memory.made.sole pfn f e).0 (opening.marked id l at pfn f e)

  row_by : (id : ℕ) (place : Place Pool Seat) → IsPlace W m id place (part_at (start_state m.script)) → length (row_of m.hv.heap.stock id place) ≡ length (book_at id (start_state m.script).books).colours
  row_by id Empty h = sym (ap (λ (b : Book). length b.colours) (reached_start.coloured.dead id h.0.live))
  row_by id (InFlight f) h = sym (ap (λ (b : Book). length b.colours) (reached_start.coloured.dead id h.0.live))
  row_by id (Domain l) h =
      row_length (frames_in l.local.own.map.pages) (away_in m.hv.heap.stock id) 0 ∙ length-map l.local.own.map.pages _ ∙ sym h.own.own.memory.count
      ∙ sym (live_orderly m.script (start_state m.script) reached_start id h.live).colours

  long : length (rows_of m) ≡ length (start_state m.script).books.list
  long = rows_long m ∙ sym reached_start.sound.orderly.places.books

  row_long : (id : ℕ) (b : Bool) → nat_lt id 64 ≡ b → length (get_or (rows_of m) id []) ≡ length (book_at id (start_state m.script).books).colours
  row_long id true e = ap (λ (xs : List ℕ). length xs) (row_is m id (ltb-true id 64 e)) ∙ row_by id (place_at id m.places.items) (each_start id)
  row_long id false e = let le = ltb-false id 64 e in ap (λ (xs : List ℕ). length xs) (row_past m id le) ∙ sym (ap (λ (b : Book). length b.colours) (get_or_past (start_state m.script).books.list id no_book (let k = reached_start.sound.orderly.places.books in omega (arith, k, le))))

  stood : IsSurveyed W → IsStood (rows_of m) (start_state m.script).books
  stood survey = (_, stands_opening m.script.starts (rows_of m) long (λ id. row_long id (nat_lt id 64) refl) (frames_once W m (start_state m.script) reached_start seated survey sole))

  -- it stands for the start
  pub start_stands : IsSurveyed W → StandsFor W m (start_state m.script)
  start_stands survey = record {
    frames = opening.frames;
    cap = opening.cap;
    heap = opening.heap;
    shared = seated.shared;
    places = opening.places;
    names = opening.names;
    each = each_start;
    colours = stood survey;
  }
