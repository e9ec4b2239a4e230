-- A turn that changes one domain, and the free frames beside it.
use Rattle.std.proofs.Common.{◌≡◌, ◌≢◌, ◌⊎◌, inl, inr, ℕ, ◌<◌, ◌≤◌, Bool, true, false, ◌||◌, List, [], ◌∷◌, length, set, get_or, refl, sym, ap, subst, ◌∙◌, arith}
use Rattle.std.specs.Prelude.{nat_lt, unwrap_or}
use Rattle.std.proofs.lemmas.Bool.{ltb-true, ltb-false, eqb-true}
use Rattle.std.proofs.lemmas.List.{length-set, get_or-set_same, get_or-set_other, get_or_past, ext_get_or}
use Rattle.std.proofs.lemmas.List.FromFn.{get_or-map-range_with_len, length-map-range_with_len}
use Rattle.neph_model.specs.Books.{State}
use Rattle.neph_runs.specs.Orderly.{seat as part_at}
use Rattle.neph_pool.specs.Names.{IsApart, only_name, both_names}
use Rattle.neph_pool.specs.World.{World, Spares}
use Rattle.neph_pool.proofs.Rows.{same_or_not}
use Rattle.neph_guest.specs.declared.live.Live.{Live}
use Rattle.neph_rows.specs.Records.{shared_of}
use Rattle.neph_heap.specs.declared.exposed_frame.ExposedFrame.{ExposedFrame}
use Rattle.neph_heap.specs.Lists.{Lists, exposed_of, aside_of, frame_in}
use Rattle.neph_heap.specs.Heap.{IsHeap}
use Rattle.neph_heap.specs.Pages.{pages_in}
use Rattle.neph_accounts.specs.Heaps.{row_frames}
use Rattle.neph_accounts.specs.Colours.{IsStood, RowPut}
use Rattle.neph_machine.specs.declared.place.Place.{Place}
use Rattle.neph_machine.specs.declared.place.Place.TheVariants.{Empty, Flight as InFlight, Domain}
use Rattle.neph_machine.specs.declared.place.Flight.{Flight}
use Rattle.neph_machine.specs.declared.machine.Machine.{Machine}
use Rattle.neph_machine.specs.Places.{place_at, is_empty}
use Rattle.neph_machine.specs.Rows.{frames_in, row_of, rows_of}
use Rattle.neph_machine.specs.StandsFor.{IsDomain, IsPlace, StandsFor}
use Rattle.neph_machine.proofs.Carrying.{Leaves, FlightsStay, LeavesParent, place_same}

-- the row of what stands in a place is told by its exposed pages
pub row_same : {Pool Seat : Type 0} (s t : Lists) (id : ℕ) (place : Place Pool Seat) → exposed_of id t ≡ exposed_of id s → row_of t id place ≡ row_of s id place
row_same s t id Empty e = refl
row_same s t id (InFlight f) e = refl
row_same s t id (Domain l) e = ap (λ (xs : List ExposedFrame). row_frames (frames_in l.local.own.map.pages) (λ pfn. unwrap_or (frame_in pfn xs) 0) 0) e

module _ {Pool Seat : Type 0} (m : Machine Pool Seat) where
  abbrev row_by : ℕ → List ℕ
  row_by id = row_of m.hv.heap.stock id (place_at id m.places.items)

  pub rows_long : length (rows_of m) ≡ 64
  rows_long = length-map-range_with_len row_by 0 64

  -- the row of an id
  pub row_is : (id : ℕ) → id < 64 → get_or (rows_of m) id [] ≡ row_of m.hv.heap.stock id (place_at id m.places.items)
  row_is id lt = get_or-map-range_with_len row_by 0 64 id id [] lt (omega arith)

  pub row_past : (id : ℕ) → 64 ≤ id → get_or (rows_of m) id [] ≡ []
  row_past id le = get_or_past (rows_of m) id [] (omega (arith, rows_long, le))

module _ {Pool Seat : Type 0} (old new : Machine Pool Seat) where
  -- no row changes
  pub rows_same : ((id : ℕ) → id < 64 → row_of new.hv.heap.stock id (place_at id new.places.items) ≡ row_of old.hv.heap.stock id (place_at id old.places.items)) → rows_of new ≡ rows_of old
  rows_same h = ext_get_or [] (rows_of new) (rows_of old) (rows_long new ∙ sym (rows_long old)) (λ id lt. let small : id < 64 = omega (arith, lt, rows_long new) in row_is new id small ∙ h id small ∙ sym (row_is old id small))

  -- the row of one id changes
  pub rows_put : (id : ℕ) → id < 64 → ((j : ℕ) → j ≢ id → place_at j new.places.items ≡ place_at j old.places.items) → ((j : ℕ) → j ≢ id → exposed_of j new.hv.heap.stock ≡ exposed_of j old.hv.heap.stock)
      → RowPut id (row_of new.hv.heap.stock id (place_at id new.places.items)) (rows_of old) (rows_of new)
  rows_put id lt places exposed = record {
    ids = rows_long new ∙ sym (rows_long old);
    here = row_is new id lt;
    others = λ j far. other_by (nat_lt j 64) j far refl;
  } where
    other_by : (b : Bool) (j : ℕ) → j ≢ id → nat_lt j 64 ≡ b → get_or (rows_of new) j [] ≡ get_or (rows_of old) j []
    other_by true j far e = let small : j < 64 = ltb-true j 64 e in row_is new j small ∙ row_same old.hv.heap.stock new.hv.heap.stock j (place_at j new.places.items) (exposed j far) ∙ ap (row_of old.hv.heap.stock j) (places j far) ∙ sym (row_is old j small)
    other_by false j far e = let le : 64 ≤ j = ltb-false j 64 e in row_past new j le ∙ sym (row_past old j le)

pub no_flight : {Pool Seat : Type 0} (l : Live Pool Seat) (f : Flight Pool Seat) → Domain l ≡ InFlight f → ⊥
no_flight l f e = cc

pub not_begun : (xs : List ℕ) (j : ℕ) → xs ≡ [] → xs ≡ j ∷ [] → ⊥
not_begun xs j e h = cc

-- a name of one of two seats
pub name_parts : (a b : Bool) → (a || b) ≡ true → (a ≡ true) ⊎ (b ≡ true)
name_parts true b e = inl refl
name_parts false b e = inr e

pub no_name : (b : Bool) → b ≡ true → b ≡ false → ⊥
no_name b h k = cc

-- past the last id nothing stands
pub full_small : {Pool Seat : Type 0} (places : List (Place Pool Seat)) → length places ≡ 64 → (j : ℕ) → is_empty (place_at j places) ≡ false → j < 64
full_small places long j full = by (nat_lt j 64) refl where
  by : (b : Bool) → nat_lt j 64 ≡ b → j < 64
  by true e = ltb-true j 64 e
  by false e = absurd (no_name true refl (ap is_empty (sym (get_or_past places j Empty (let le = ltb-false j 64 e in omega arith))) ∙ full))

module _ {Pool Seat : Type 0} (W : World Pool Seat) (old new : Machine Pool Seat) where
  -- The place of a domain has changed to this, beside the free frames. The hypervisor's lists and names have changed for its id alone.
  pub record OneMoved (id : ℕ) (l : Live Pool Seat) (y : Place Pool Seat) : Type 0 where
    pub within : id < 64
    pub here : place_at id old.places.items ≡ Domain l
    pub places : new.places.items ≡ set old.places.items id y
    pub script : new.script ≡ old.script
    pub exposed : (j : ℕ) → j ≢ id → exposed_of j new.hv.heap.stock ≡ exposed_of j old.hv.heap.stock
    pub aside : (j : ℕ) → j ≢ id → aside_of j new.hv.heap.stock ≡ aside_of j old.hv.heap.stock
    pub names : (j : ℕ) → j ≢ id → W.names new.hv.heap.seat j ≡ W.names old.hv.heap.seat j
    pub name : W.names new.hv.heap.seat id ≡ is_empty y
    pub spares : Spares W (both_names (only_name id) (W.names old.hv.heap.seat)) old.pool new.pool
    pub heap : IsHeap W new.pool new.hv.heap.seat new.hv.heap.stock []

  module _ (id : ℕ) (l : Live Pool Seat) (y : Place Pool Seat) (one : OneMoved id l y) where
    other_place : (j : ℕ) → j ≢ id → place_at j new.places.items ≡ place_at j old.places.items
    other_place j far = ap (place_at j) one.places ∙ get_or-set_other old.places.items id j y Empty far

    flights_stay : (j : ℕ) → FlightsStay W old new j
    flights_stay j child f at parent = by (same_or_not child id) where
      by : (child ≡ id) ⊎ (child ≢ id) → place_at child new.places.items ≡ InFlight f
      by (inl e) = absurd (no_flight l f (sym one.here ∙ ap (λ (i : ℕ). place_at i old.places.items) (sym e) ∙ at))
      by (inr far) = other_place child far ∙ at

    module _ (st : State) (stands : StandsFor W old st) where
      pub moved_here : place_at id new.places.items ≡ y
      moved_here = ap (place_at id) one.places ∙ get_or-set_same old.places.items id y Empty (let n = stands.places in let lt = one.within in omega arith)

      apart : (j : ℕ) → j < 64 → j ≢ id → is_empty (place_at j old.places.items) ≡ false → IsApart (both_names (only_name id) (W.names old.hv.heap.seat)) (only_name j)
      apart j lt far full d x y = by (name_parts (only_name id d) (W.names old.hv.heap.seat d) x) where
        same : d ≡ j
        same = eqb-true d j y

        by : (only_name id d ≡ true) ⊎ (W.names old.hv.heap.seat d ≡ true) → ⊥
        by (inl a) = far (sym same ∙ eqb-true d id a)
        by (inr a) = no_name (W.names old.hv.heap.seat j) (ap (W.names old.hv.heap.seat) (sym same) ∙ a) (stands.names j lt ∙ full)

      leaves : (j : ℕ) → j ≢ id → Leaves W old new (both_names (only_name id) (W.names old.hv.heap.seat)) j
      leaves j far = record {
        place = other_place j far;
        exposed = one.exposed j far;
        aside = one.aside j far;
        apart = λ full. apart j (full_small old.places.items stands.places j full) far full;
      }

      module _ (st' : State) (quiet : (part_at st id).guest.begun ≡ []) (others : (j : ℕ) → j ≢ id → part_at st' j ≡ part_at st j) where
        -- no child in flight is of this domain
        parents : (j : ℕ) (place : Place Pool Seat) → place_at j old.places.items ≡ place → IsPlace W old j place (part_at st) → LeavesParent W old new (both_names (only_name id) (W.names old.hv.heap.seat)) one.script one.spares (part_at st) (part_at st') place
        parents j Empty at h = tt
        parents j (InFlight f) at h = let far : f.parent ≢ id = (λ (e : f.parent ≡ id). not_begun _ j (ap (λ (i : ℕ). (part_at st i).guest.begun) e ∙ quiet) h.1.begun) in (leaves f.parent far, others f.parent far)
        parents j (Domain l) at h = tt

        each_by : (j : ℕ) → (j ≡ id) ⊎ (j ≢ id) → IsPlace W new id y (part_at st') → IsPlace W new j (place_at j new.places.items) (part_at st')
        each_by j (inl e) h = subst (λ (i : ℕ). IsPlace W new i (place_at i new.places.items) (part_at st')) (sym e) (subst (λ (place : Place Pool Seat). IsPlace W new id place (part_at st')) (sym moved_here) h)
        each_by j (inr far) h = place_same W old new (both_names (only_name id) (W.names old.hv.heap.seat)) one.script one.spares j (part_at st) (part_at st') (leaves j far) (parents j (place_at j old.places.items) refl (stands.each j)) (flights_stay j) (others j far) stands.each

        names_by : (j : ℕ) → j < 64 → (j ≡ id) ⊎ (j ≢ id) → W.names new.hv.heap.seat j ≡ is_empty (place_at j new.places.items)
        names_by j lt (inl e) = ap (W.names new.hv.heap.seat) e ∙ one.name ∙ sym (ap is_empty moved_here) ∙ ap (λ (i : ℕ). is_empty (place_at i new.places.items)) (sym e)
        names_by j lt (inr far) = one.names j far ∙ stands.names j lt ∙ ap is_empty (sym (other_place j far))

        -- the machine stands for a state of which no other part has changed
        pub stands_moved : st'.machine.shared ≡ shared_of new.hv.registry (pages_in (W.entries new.pool new.hv.heap.seat) new.hv.heap.stock.exposed) → IsPlace W new id y (part_at st') → IsStood (rows_of new) st'.books → StandsFor W new st'
        stands_moved shared place stood = record {
          frames = one.spares.frames ∙ stands.frames ∙ ap (λ s. s.frames) (sym one.script);
          cap = let e = one.spares.cap in let le = stands.cap in omega arith;
          heap = one.heap;
          shared = shared;
          places = ap (λ (xs : List (Place Pool Seat)). length xs) one.places ∙ length-set old.places.items id y ∙ stands.places;
          names = λ j lt. names_by j lt (same_or_not j id);
          each = λ j. each_by j (same_or_not j id) place;
          colours = stood;
        }

    -- the row of the id alone has changed
    pub moved_row : RowPut id (row_of new.hv.heap.stock id (place_at id new.places.items)) (rows_of old) (rows_of new)
    moved_row = rows_put old new id one.within other_place one.exposed

  -- One domain has changed in its place, beside the free frames.
  pub record OneDomain (id : ℕ) (l k : Live Pool Seat) : Type 0 where
    pub within : id < 64
    pub here : place_at id old.places.items ≡ Domain l
    pub places : new.places.items ≡ set old.places.items id (Domain k)
    pub script : new.script ≡ old.script
    pub exposed : new.hv.heap.stock.exposed ≡ old.hv.heap.stock.exposed
    pub aside : new.hv.heap.stock.aside ≡ old.hv.heap.stock.aside
    pub names : W.names new.hv.heap.seat ≡ W.names old.hv.heap.seat
    pub spares : Spares W (both_names (only_name id) (W.names old.hv.heap.seat)) old.pool new.pool
    pub heap : IsHeap W new.pool new.hv.heap.seat new.hv.heap.stock []

  module _ (id : ℕ) (l k : Live Pool Seat) (one : OneDomain id l k) where
    exposed_at : (j : ℕ) → exposed_of j new.hv.heap.stock ≡ exposed_of j old.hv.heap.stock
    exposed_at j = ap (λ (xs : List (List ExposedFrame)). get_or xs j []) one.exposed

    module _ (st : State) (stands : StandsFor W old st) where
      one_moved : OneMoved id l (Domain k)
      one_moved = record {
        within = one.within;
        here = one.here;
        places = one.places;
        script = one.script;
        exposed = λ j far. exposed_at j;
        aside = λ j far. ap (λ (xs : List (List ℕ)). get_or xs j []) one.aside;
        names = λ j far. ap (λ (ns : ℕ → Bool). ns j) one.names;
        name = ap (λ (ns : ℕ → Bool). ns id) one.names ∙ stands.names id one.within ∙ ap is_empty one.here;
        spares = one.spares;
        heap = one.heap;
      }

      -- the machine stands for a state of which no other part has changed
      pub stands_one : (st' : State) → (part_at st id).guest.begun ≡ [] → ((j : ℕ) → j ≢ id → part_at st' j ≡ part_at st j) → st'.machine.shared ≡ shared_of new.hv.registry (pages_in (W.entries new.pool new.hv.heap.seat) new.hv.heap.stock.exposed) → IsDomain W new id k (part_at st' id)
          → IsStood (rows_of new) st'.books → StandsFor W new st'
      stands_one = stands_moved id l (Domain k) one_moved st stands

      -- the row of the domain alone has changed
      pub one_row : RowPut id (row_of new.hv.heap.stock id (place_at id new.places.items)) (rows_of old) (rows_of new)
      one_row = moved_row id l (Domain k) one_moved

      -- and no row has, where its pages lie in the frames that they lay in
      pub one_rows_same : k.local.own.map.pages ≡ l.local.own.map.pages → rows_of new ≡ rows_of old
      one_rows_same e = rows_same old new (λ j lt. by j (same_or_not j id)) where
        here_same : row_of old.hv.heap.stock id (place_at id new.places.items) ≡ row_of old.hv.heap.stock id (place_at id old.places.items)
        here_same = ap (row_of old.hv.heap.stock id) (moved_here id l (Domain k) one_moved st stands) ∙ ap (λ ps. row_frames (frames_in ps) (λ pfn. unwrap_or (frame_in pfn (exposed_of id old.hv.heap.stock)) 0) 0) e ∙ sym (ap (row_of old.hv.heap.stock id) one.here)

        by : (j : ℕ) → (j ≡ id) ⊎ (j ≢ id) → row_of new.hv.heap.stock j (place_at j new.places.items) ≡ row_of old.hv.heap.stock j (place_at j old.places.items)
        by j (inl s) = row_same old.hv.heap.stock new.hv.heap.stock j (place_at j new.places.items) (exposed_at j) ∙ ap (λ (i : ℕ). row_of old.hv.heap.stock i (place_at i new.places.items)) s ∙ here_same ∙ ap (λ (i : ℕ). row_of old.hv.heap.stock i (place_at i old.places.items)) (sym s)
        by j (inr far) = row_same old.hv.heap.stock new.hv.heap.stock j (place_at j new.places.items) (exposed_at j) ∙ ap (row_of old.hv.heap.stock j) (other_place id l (Domain k) one_moved j far)
