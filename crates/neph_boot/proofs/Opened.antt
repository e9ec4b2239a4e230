-- A machine that starts: a line that opens.
use Rattle.std.proofs.Common.{◌≡◌, ◌≢◌, ◌⊎◌, inl, inr, ℕ, zero, suc, ◌+◌, ◌-◌, ◌<◌, ◌≤◌, Bool, true, false, not, ◌&&◌, ◌||◌, ◌==◌, List, [], length, get_or, set, drop, replicate, Option, Some, None, refl, sym, ap, subst, ◌∙◌, arith}
use Rattle.std.specs.Prelude.{nat_lt, is_some}
use Rattle.std.specs.FinMap as fm
use Rattle.std.proofs.lemmas.Bool.{ltb-true, ltb-false, lt-ltb, eq-eqb, eqb-true, ne_eqb}
use Rattle.std.proofs.lemmas.List.{length-set, length-replicate, get_or-set_same, get_or-set_other, get_or_past}
use Rattle.neph_model.specs.declared.own.Own.{Own}
use Rattle.neph_model.specs.declared.book.Stage.{Stage}
use Rattle.neph_model.specs.declared.script.Script.{Script}
use Rattle.neph_model.specs.declared.script.Start.{Start}
use Rattle.neph_model.specs.Machine.{Exposed, exposed_at}
use Rattle.neph_model.specs.Start.{started_512s, start_own, start_pages, start_exposed}
use Rattle.neph_model.specs.WellFormed.{IsWellFormed, frames_of_starts}
use Rattle.neph_model.specs.Memory.{zero_page}
use Rattle.neph_model.specs.Own.{page_of}
use Rattle.neph_runs.specs.Orderly.{Outline, Seat as Part, seat as part_at}
use Rattle.neph_pool.specs.declared.entry.Entry.{Entry}
use Rattle.neph_pool.specs.Names.{only_name}
use Rattle.neph_pool.specs.World.{World}
use Rattle.neph_pool.proofs.Rows.{same_or_not}
use Rattle.neph_memory.specs.Memory.{bytes_for}
use Rattle.neph_memory.specs.Pages.{frame_at}
use Rattle.neph_memory.specs.OwnHalf.{IsMemoryOf}
use Rattle.neph_local.specs.Starts.{starts_local}
use Rattle.neph_local.proofs.Halving.{start_memory}
use Rattle.neph_guest.specs.declared.live.Guest.{Guest}
use Rattle.neph_guest.specs.declared.live.Live.{Live}
use Rattle.neph_heap.specs.declared.exposed_frame.ExposedFrame.{ExposedFrame}
use Rattle.neph_heap.specs.Lists.{exposed_of, frame_in}
use Rattle.neph_heap.specs.Pages.{pages_in}
use Rattle.neph_heap.proofs.Heaps.{none_at}
use Rattle.neph_heap.proofs.Maps.{shown_is}
use Rattle.neph_machine.specs.declared.place.Place.{Place}
use Rattle.neph_machine.specs.declared.place.Place.TheVariants.{Empty, Flight as InFlight, Domain}
use Rattle.neph_machine.specs.declared.place.Flight.{Flight}
use Rattle.neph_machine.specs.declared.machine.Machine.{Machine}
use Rattle.neph_machine.specs.Places.{place_at, is_empty}
use Rattle.neph_machine.specs.StandsFor.{Exposes, IsAtStage, IsDomain, IsPlace}
use Rattle.neph_boot.specs.Opening.{opened, first_lines, AreMarked, IsOpening, HasOpened}
use Rattle.neph_boot.proofs.StartLines.{opened_begun, IsNext, formed_first, opened_other, opened_here, opened_pages, exposed_low, frames_left}
use Rattle.neph_boot.proofs.NextLine.{line_pages}
use Rattle.neph_machine.proofs.Reached.{IsReached, start_reached, live_own, live_sound}
use Rattle.neph_machine.proofs.Carrying.{same_live, Leaves, LeavesParent, place_same}
use Rattle.neph_machine.proofs.OnePlace.{not_begun, no_name, full_small}

name_kept : (a b : Bool) → b ≡ false → a && not b ≡ a
name_kept true b e = ap not e
name_kept false b e = refl

name_gone : (a b : Bool) → b ≡ true → a && not b ≡ false
name_gone true b e = ap not e
name_gone false b e = refl

twice_not : (b : Bool) → not (not b) ≡ b
twice_not true = refl
twice_not false = refl

some_bytes : (es : List (Option Entry)) (o : Option ℕ) → is_some (bytes_for es o) ≡ is_some o
some_bytes es None = refl
some_bytes es (Some f) = refl

either : (b : Bool) → (b || true) ≡ true
either true = refl
either false = refl

-- each page that has bytes at the start is marked
starts_own : (id n q : ℕ) → 4 ≤ n → is_some (get_or (start_pages id n) q None) ≡ true → (q < n) × (starts_local q ≡ true)
starts_own id n zero le some = (omega arith, refl)
starts_own id n (suc zero) le some = absurd (no_name _ some refl)
starts_own id n (suc (suc zero)) le some = absurd (no_name _ some refl)
starts_own id n (suc (suc (suc zero))) le some = absurd (no_name _ some refl)
starts_own id n (suc (suc (suc (suc k)))) le some = by (nat_lt k (n - 4)) refl where
  by : (b : Bool) → nat_lt k (n - 4) ≡ b → (suc (suc (suc (suc k))) < n) × (starts_local (suc (suc (suc (suc k)))) ≡ true)
  by true e =
      let lt = ltb-true k (n - 4) e in
      (omega (arith, lt), ap (λ b. (suc (suc (suc (suc k))) == 0) || b) (lt-ltb 3 (suc (suc (suc (suc k)))) (omega arith)) ∙ either (suc (suc (suc (suc k))) == 0))
  by false e =
      let le = ltb-false k (n - 4) e in
      let past : get_or (replicate (n - 4) (Some zero_page)) k None ≡ None = get_or_past (replicate (n - 4) (Some zero_page)) k None (omega (arith, le, length-replicate (n - 4) (Some zero_page))) in
      absurd (no_name _ some (ap is_some past))

-- a line opens
module _ {Pool Seat : Type 0} (W : World Pool Seat) (old new : Machine Pool Seat) (n : ℕ) (t : Start) (opening : IsOpening W old n) (well : IsWellFormed old.script) (lt : n < length old.script.starts) (is : get_or old.script.starts n t ≡ t) (many : 8 ≤ t.pages) (few : t.pages ≤ 1024) (did : HasOpened W old new (suc n) t.pages) where
  before : ℕ → Part
  before = part_at (opened n old.script)

  after : ℕ → Part
  after = part_at (opened (suc n) old.script)

  next : IsNext (suc n) t (part_at (opened (suc n) old.script) (suc n))
  next = subst (λ (u : Start). IsNext (suc n) u (part_at (opened (suc n) old.script) (suc n))) is (opened_here old.script n t well lt)

  small : suc n < 64
  small = let h = well.few in omega arith

  other_place : (j : ℕ) → j ≢ suc n → place_at j new.places.items ≡ place_at j old.places.items
  other_place j far = ap (place_at j) did.places ∙ get_or-set_other old.places.items (suc n) j (Domain did.domain) Empty far

  now_here : place_at (suc n) new.places.items ≡ Domain did.domain
  now_here = ap (place_at (suc n)) did.places ∙ get_or-set_same old.places.items (suc n) (Domain did.domain) Empty (let k = opening.places in let s = small in omega arith)

  other_exposed : (j : ℕ) → j ≢ suc n → exposed_of j new.hv.heap.stock ≡ exposed_of j old.hv.heap.stock
  other_exposed j far = ap (λ (xs : List (List ExposedFrame)). get_or xs j []) did.exposed ∙ get_or-set_other old.hv.heap.stock.exposed (suc n) j (exposed_of (suc n) new.hv.heap.stock) [] far

  no_flights : (j : ℕ) (f : Flight Pool Seat) → place_at j old.places.items ≡ InFlight f → ⊥
  no_flights j f at = let h = subst (λ (p : Place Pool Seat). IsPlace W old j p (part_at (opened n old.script))) at (opening.each j) in not_begun _ j (opened_begun old.script n f.parent) h.1.begun

  leaves : (j : ℕ) → j ≢ suc n → Leaves W old new (W.names old.hv.heap.seat) j
  leaves j far = record {
    place = other_place j far;
    exposed = other_exposed j far;
    aside = ap (λ (xs : List (List ℕ)). get_or xs j []) did.aside;
    apart = λ full d x y. no_name (W.names old.hv.heap.seat d) x (ap (W.names old.hv.heap.seat) (eqb-true d j y) ∙ opening.names j (full_small old.places.items opening.places j full) ∙ full);
  }

  parents : (j : ℕ) (place : Place Pool Seat) → place_at j old.places.items ≡ place → LeavesParent W old new (W.names old.hv.heap.seat) did.script did.spares (part_at (opened n old.script)) (part_at (opened (suc n) old.script)) place
  parents j Empty at = tt
  parents j (InFlight f) at = absurd (no_flights j f at)
  parents j (Domain l) at = tt

  reached : IsReached (first_lines (suc n) old.script) (opened (suc n) old.script)
  reached = start_reached (first_lines (suc n) old.script) (formed_first old.script (suc n) well)

  shown_here : exposed_at (suc n) (pages_in (W.entries new.pool new.hv.heap.seat) new.hv.heap.stock.exposed) ≡ start_exposed
  shown_here =
      let long : length (pages_in (W.entries old.pool old.hv.heap.seat) old.hv.heap.stock.exposed) ≡ 64 = ap (λ (xs : List Exposed). length xs) opening.pages ∙ (start_reached (first_lines n old.script) (formed_first old.script n well)).sound.orderly.places.exposed in
      ap (exposed_at (suc n)) did.shown ∙ get_or-set_same (pages_in (W.entries old.pool old.hv.heap.seat) old.hv.heap.stock.exposed) (suc n) start_exposed fm.empty (let s = small in omega arith)

  shown_frame : (pfn : ℕ) → is_some (frame_in pfn (exposed_of (suc n) new.hv.heap.stock)) ≡ is_some (fm.get start_exposed pfn)
  shown_frame pfn = sym (shown_is (W.entries new.pool new.hv.heap.seat) new.hv.heap.stock.exposed (suc n) pfn) ∙ ap (λ (e : Exposed). is_some (fm.get e pfn)) shown_here

  -- the halves of the domain at its start
  own_frame : (pfn : ℕ) → pfn < length did.domain.local.own.map.pages → is_some (frame_at did.domain.local.own.map.pages pfn) ≡ not (is_some (fm.get start_exposed pfn))
  own_frame pfn l =
      let h = live_sound (first_lines (suc n) old.script) (opened (suc n) old.script) reached (suc n) next.live in
      let count : length (start_own (suc n) t).pages ≡ t.pages = omega (arith, many, length-replicate (t.pages - 4) (Some zero_page)) in
      let inside : pfn < length (part_at (opened (suc n) old.script) (suc n)).own.pages = let e = ap (λ (o : Own). length o.pages) next.own in let c = did.started.count in omega (arith, e, c, l, count) in
      sym (some_bytes (W.entries new.pool did.domain.local.seat) (frame_at did.domain.local.own.map.pages pfn)) ∙ ap is_some (did.started.bytes pfn) ∙ sym (ap (λ (o : Own). is_some (page_of o pfn)) next.own) ∙ h.halves.apart pfn inside ∙ ap (λ (e : Outline). not (e.has pfn)) next.exposed

  exposes : Exposes new.hv.heap.stock (suc n) did.domain
  exposes = record {
    split = λ pfn l. shown_frame pfn ∙ sym (ap not (own_frame pfn l) ∙ twice_not (is_some (fm.get start_exposed pfn)));
    within = λ pfn some. let low = exposed_low pfn (sym (shown_frame pfn) ∙ some) in let c = did.started.count in omega (arith, low, c, many);
  }

  domain : IsDomain W new (suc n) did.domain (part_at (opened (suc n) old.script) (suc n))
  domain = record {
    live = next.live;
    dom = ap (λ (g : Guest). g.dom) did.guest;
    id_is = did.id_is;
    stands = did.stands;
    own = record {
      line = ap (λ (o : Own). o.line) next.own ∙ sym (ap (λ (g : Guest). g.line) did.guest);
      came = ap (λ (o : Own). o.came) next.own ∙ sym (ap (λ (g : Guest). g.came) did.guest);
      refused = ap (λ (o : Own). o.refused) next.own ∙ sym (ap (λ (g : Guest). g.failed) did.guest);
      own = record {
        memory = subst (λ (o : Own). IsMemoryOf W new.pool did.domain.local o.pages o.vmap o.leaves) (sym next.own) (start_memory W new.pool did.domain.local (suc n) t.pages did.started many few did.leaves did.none (suc n) t refl refl);
        marks = (live_own (first_lines (suc n) old.script) (opened (suc n) old.script) reached (suc n) next.live).own.alone;
      };
    };
    spare = next.spare ∙ sym (ap is_some did.started.spare);
    exposes = exposes;
    aside = ap (λ (xs : List (List ℕ)). get_or xs (suc n) []) (did.aside ∙ opening.aside) ∙ none_at 64 (suc n);
    stage = subst (λ (stage : Stage). IsAtStage W new (suc n) did.domain (part_at (opened (suc n) old.script) (suc n)) stage) (sym next.ready) (ap (λ (g : Guest). g.stage) did.guest, did.started.hand);
  }

  each_by : (j : ℕ) → (j ≡ suc n) ⊎ (j ≢ suc n) → IsPlace W new j (place_at j new.places.items) (part_at (opened (suc n) old.script))
  each_by j (inl e) = subst (λ (i : ℕ). IsPlace W new i (place_at i new.places.items) (part_at (opened (suc n) old.script))) (sym e) (subst (λ (place : Place Pool Seat). IsPlace W new (suc n) place (part_at (opened (suc n) old.script))) (sym now_here) domain)
  each_by j (inr far) = place_same W old new (W.names old.hv.heap.seat) did.script did.spares j (part_at (opened n old.script)) (part_at (opened (suc n) old.script)) (leaves j far) (parents j (place_at j old.places.items) refl) (λ child f at parent. absurd (no_flights child f at)) (opened_other old.script n j far) opening.each

  names_by : (j : ℕ) → j < 64 → (j ≡ suc n) ⊎ (j ≢ suc n) → W.names new.hv.heap.seat j ≡ is_empty (place_at j new.places.items)
  names_by j l (inl e) = ap (λ (ns : ℕ → Bool). ns j) did.names ∙ name_gone (W.names old.hv.heap.seat j) (only_name (suc n) j) (eq-eqb j (suc n) e) ∙ sym (ap is_empty now_here) ∙ ap (λ (i : ℕ). is_empty (place_at i new.places.items)) (sym e)
  names_by j l (inr far) = ap (λ (ns : ℕ → Bool). ns j) did.names ∙ name_kept (W.names old.hv.heap.seat j) (only_name (suc n) j) (ne_eqb j (suc n) far) ∙ opening.names j l ∙ ap is_empty (sym (other_place j far))

  -- the pages of the new domain are marked, and those of each other still are
  marked_here : AreMarked did.domain.local.own
  marked_here q f e =
      let some : is_some (get_or (start_pages (suc n) t.pages) q None) ≡ true = sym (ap is_some (did.started.bytes q)) ∙ some_bytes (W.entries new.pool did.domain.local.seat) (frame_at did.domain.local.own.map.pages q) ∙ ap is_some e in
      let h = starts_own (suc n) t.pages q (omega (arith, many)) some in
      did.started.alone q h.0 h.1

  marked_by : (j : ℕ) (l : Live Pool Seat) → (j ≡ suc n) ⊎ (j ≢ suc n) → place_at j new.places.items ≡ Domain l → AreMarked l.local.own
  marked_by j l (inl e) at =
      let is : Domain did.domain ≡ Domain l = sym now_here ∙ ap (λ (i : ℕ). place_at i new.places.items) (sym e) ∙ at in
      subst (λ (d : Live Pool Seat). AreMarked d.local.own) (same_live did.domain l is) marked_here
  marked_by j l (inr far) at = opening.marked j l (sym (other_place j far) ∙ at)

  -- the machine behind the line
  line_opened : IsOpening W new (suc n)
  line_opened = record {
    frames = did.spares.frames ∙ opening.frames ∙ ap (λ (s : Script). s.frames) (sym did.script);
    cap = let e = did.spares.cap in let le = opening.cap in omega arith;
    heap = did.heap;
    places = ap (λ (xs : List (Place Pool Seat)). length xs) did.places ∙ length-set old.places.items (suc n) (Domain did.domain) ∙ opening.places;
    names = λ j l. names_by j l (same_or_not j (suc n));
    each = λ j. subst (λ (s : Script). IsPlace W new j (place_at j new.places.items) (part_at (opened (suc n) s))) (sym did.script) (each_by j (same_or_not j (suc n)));
    marked = λ j l. marked_by j l (same_or_not j (suc n));
    aside = did.aside ∙ opening.aside;
    pages = did.shown ∙ ap (λ (xs : List Exposed). set xs (suc n) start_exposed) opening.pages ∙ opened_pages old.script n well lt ∙ ap (λ (s : Script). (opened (suc n) s).machine.shared.pages) (sym did.script);
    room = let left = frames_left old.script n t lt in let size = ap (λ (u : Start). u.pages + 1 + started_512s u.pages) is in let r = opening.room in let l = did.left in let same = ap (λ (s : Script). frames_of_starts (drop (suc n) s.starts)) did.script in omega (arith, left, size, r, l, same);
  }

-- the domain of the next line, by the numbers that a call was given
pub line_goes : {Pool Seat : Type 0} (W : World Pool Seat) (old new : Machine Pool Seat) (n : ℕ) (t : Start) → IsOpening W old n → IsWellFormed old.script → n < length old.script.starts → get_or old.script.starts n t ≡ t → (id pages next : ℕ) → id ≡ suc n → pages ≡ t.pages → next ≡ suc n → HasOpened W old new id pages → IsOpening W new next
line_goes W old new n t opening well lt is id pages next e size k did =
    let low = line_pages old.script n t well lt in
    let same = ap (λ (u : Start). u.pages) is in
    let many : 8 ≤ t.pages = omega (arith, low.0, same) in
    let few : t.pages ≤ 1024 = omega (arith, low.1, same) in
    subst (IsOpening W new) (sym k) (line_opened W old new n t opening well lt is many few (subst (λ (x : ℕ). HasOpened W old new (suc n) x) size (subst (λ (i : ℕ). HasOpened W old new i pages) e did)))
