-- A turn that changes the places of a domain and of its child, and the free frames beside them.
use Rattle.std.proofs.Common.{◌≡◌, ◌≢◌, ◌⊎◌, inl, inr, ℕ, ◌<◌, Bool, true, false, ◌||◌, List, [], ◌∷◌, length, set, get_or, refl, sym, ap, subst, ◌∙◌, arith}
use Rattle.std.specs.Prelude.{nat_lt}
use Rattle.std.proofs.lemmas.Bool.{ltb-true, ltb-false, eqb-true}
use Rattle.std.proofs.lemmas.List.{length-set, get_or-set_same, get_or-set_other}
use Rattle.neph_model.specs.Books.{State}
use Rattle.neph_runs.specs.Orderly.{seat as part_at}
use Rattle.neph_pool.specs.Names.{IsApart, only_name, both_names}
use Rattle.neph_pool.specs.World.{World, Spares}
use Rattle.neph_pool.proofs.Rows.{same_or_not}
use Rattle.neph_guest.specs.declared.live.Live.{Live}
use Rattle.neph_rows.specs.Records.{shared_of}
use Rattle.neph_heap.specs.Lists.{Lists, exposed_of, aside_of}
use Rattle.neph_heap.specs.Heap.{IsHeap}
use Rattle.neph_heap.specs.Pages.{pages_in}
use Rattle.neph_accounts.specs.Colours.{IsStood, RowPut}
use Rattle.neph_machine.specs.declared.place.Place.{Place}
use Rattle.neph_machine.specs.declared.place.Place.TheVariants.{Empty, Flight as InFlight, Domain}
use Rattle.neph_machine.specs.declared.place.Flight.{Flight}
use Rattle.neph_machine.specs.declared.machine.Machine.{Machine}
use Rattle.neph_machine.specs.Places.{place_at, is_empty}
use Rattle.neph_machine.specs.Rows.{row_of, rows_of}
use Rattle.neph_machine.specs.StandsFor.{IsForkIn, IsPlace, StandsFor}
use Rattle.neph_machine.proofs.Carrying.{Leaves, FlightsStay, LeavesParent, place_same}
use Rattle.neph_machine.proofs.OnePlace.{row_same, rows_same, rows_long, row_is, row_past, no_flight, name_parts, no_name, full_small}

-- the list ys is xs, with x and y put at two places
pub record IsPut {A : Type 0} (xs ys : List A) (i j : ℕ) (x y : A) : Type 0 where
  pub long : length ys ≡ length xs
  pub here : (d : A) → get_or ys i d ≡ x
  pub there : (d : A) → get_or ys j d ≡ y
  pub other : (k : ℕ) → k ≢ i → k ≢ j → (d : A) → get_or ys k d ≡ get_or xs k d

pub put_two : {A : Type 0} (xs : List A) (i j : ℕ) (x y : A) → i < length xs → j < length xs
    → j ≢ i → IsPut xs (set (set xs i x) j y) i j x y
put_two xs i j x y li lj far = let n = length-set xs i x in record {
  long = length-set (set xs i x) j y ∙ n;
  here = λ d. get_or-set_other (set xs i x) j i y d (λ s. far (sym s))
      ∙ get_or-set_same xs i x d li;
  there = λ d. get_or-set_same (set xs i x) j y d (omega (arith, n, lj));
  other = λ k off away d. get_or-set_other (set xs i x) j k y d away
      ∙ get_or-set_other xs i k x d off;
}

pub one_begun : (xs : List ℕ) (i j : ℕ) → xs ≡ i ∷ [] → xs ≡ j ∷ [] → i ≡ j
one_begun xs i j e h = cc

-- nothing, or a child in flight of the domain of this id
abbrev pub IsChildPlace : {Pool Seat : Type 0} → ℕ → Place Pool Seat → Type 0
IsChildPlace id Empty = Unit {0}
IsChildPlace id (InFlight f) = f.parent ≡ id
IsChildPlace id (Domain l) = ⊥

module _ {Pool Seat : Type 0} (W : World Pool Seat) (old new : Machine Pool Seat) where
  -- The places of a domain and of a child of its, which was in flight or had not begun, have changed
  -- to these. The hypervisor's lists and names have changed for the child alone.
  pub record PairMoved (id child : ℕ) (l : Live Pool Seat) (z x y : Place Pool Seat)
      : Type 0 where
    pub within : id < 64
    pub below : child < 64
    pub far : child ≢ id
    pub here : place_at id old.places.items ≡ Domain l
    pub there : place_at child old.places.items ≡ z
    pub child_place : IsChildPlace id z
    pub long : length new.places.items ≡ 64
    pub now_here : place_at id new.places.items ≡ x
    pub now_there : place_at child new.places.items ≡ y
    pub other : (j : ℕ) → j ≢ id → j ≢ child → place_at j new.places.items
        ≡ place_at j old.places.items
    pub full : is_empty x ≡ false
    pub script : new.script ≡ old.script
    pub exposed : (j : ℕ) → j ≢ child → exposed_of j new.hv.heap.stock
        ≡ exposed_of j old.hv.heap.stock
    pub aside : (j : ℕ) → j ≢ child → aside_of j new.hv.heap.stock ≡ aside_of j old.hv.heap.stock
    pub names : (j : ℕ) → j ≢ child → W.names new.hv.heap.seat j ≡ W.names old.hv.heap.seat j
    pub name : W.names new.hv.heap.seat child ≡ is_empty y
    pub spares : Spares W
        (both_names (W.names old.hv.heap.seat) (both_names (only_name id) (only_name child)))
        old.pool new.pool
    pub heap : IsHeap W new.pool new.hv.heap.seat new.hv.heap.stock []

  module _ (id child : ℕ) (l : Live Pool Seat) (z x y : Place Pool Seat)
      (pair : PairMoved id child l z x y) where
    abbrev stock : Lists
    stock = old.hv.heap.stock

    -- the child had no row
    child_row : (place : Place Pool Seat) → IsChildPlace id place → row_of stock child place ≡ []
    child_row Empty h = refl
    child_row (InFlight f) h = refl
    child_row (Domain k) h = absurd h

    -- every other row is as it was, where the domain's is
    row_else : row_of stock id x ≡ row_of stock id (Domain l) → (j : ℕ) → j ≢ child
        → row_of new.hv.heap.stock j (place_at j new.places.items)
        ≡ row_of stock j (place_at j old.places.items)
    row_else same j away = row_same stock new.hv.heap.stock j (place_at j new.places.items)
        (pair.exposed j away) ∙ by (same_or_not j id) where
          by : (j ≡ id) ⊎ (j ≢ id) → row_of stock j (place_at j new.places.items)
              ≡ row_of stock j (place_at j old.places.items)
          by (inl e) =
              ap (λ (i : ℕ). row_of stock i (place_at i new.places.items)) e
              ∙ ap (row_of stock id) pair.now_here ∙ same
              ∙ sym (ap (row_of stock id) pair.here)
              ∙ ap (λ (i : ℕ). row_of stock i (place_at i old.places.items)) (sym e)
          by (inr off) = ap (row_of stock j) (pair.other j off away)

    pub pair_row : row_of stock id x ≡ row_of stock id (Domain l)
        → RowPut child (row_of new.hv.heap.stock child y) (rows_of old) (rows_of new)
    pair_row same = record {
      ids = rows_long new ∙ sym (rows_long old);
      here = row_is new child pair.below ∙ ap (row_of new.hv.heap.stock child) pair.now_there;
      others = λ j away. by (nat_lt j 64) j away refl;
    } where
      by : (b : Bool) (j : ℕ) → j ≢ child → nat_lt j 64 ≡ b → get_or (rows_of new) j []
          ≡ get_or (rows_of old) j []
      by true j away e = let lt = ltb-true j 64 e in row_is new j lt ∙ row_else same j away
          ∙ sym (row_is old j lt)
      by false j away e = let le = ltb-false j 64 e in row_past new j le ∙ sym (row_past old j le)

    -- no row changes where the child's doesn't
    pub pair_rows : row_of stock id x ≡ row_of stock id (Domain l)
        → row_of new.hv.heap.stock child y ≡ [] → rows_of new ≡ rows_of old
    pair_rows same none = rows_same old new (λ j lt. by j (same_or_not j child)) where
      by : (j : ℕ) → (j ≡ child) ⊎ (j ≢ child)
          → row_of new.hv.heap.stock j (place_at j new.places.items)
          ≡ row_of stock j (place_at j old.places.items)
      by j (inl e) =
          ap (λ (i : ℕ). row_of new.hv.heap.stock i (place_at i new.places.items)) e
          ∙ ap (row_of new.hv.heap.stock child) pair.now_there ∙ none
          ∙ sym (ap (row_of stock child) pair.there ∙ child_row z pair.child_place)
          ∙ ap (λ (i : ℕ). row_of stock i (place_at i old.places.items)) (sym e)
      by j (inr away) = row_else same j away

    module _ (st st' : State) (stands : StandsFor W old st)
        (one : (j : ℕ) → (part_at st id).guest.begun ≡ j ∷ [] → j ≡ child)
        (others : (j : ℕ) → j ≢ id → j ≢ child → part_at st' j ≡ part_at st j) where
      abbrev ns : ℕ → Bool
      ns = both_names (W.names old.hv.heap.seat) (both_names (only_name id) (only_name child))

      apart : (j : ℕ) → j < 64 → j ≢ id → j ≢ child → is_empty (place_at j old.places.items) ≡ false
          → IsApart ns (only_name j)
      apart j lt off away full d a b =
          by (name_parts (W.names old.hv.heap.seat d) (only_name id d || only_name child d) a) where
            same : d ≡ j
            same = eqb-true d j b

            two : (only_name id d ≡ true) ⊎ (only_name child d ≡ true) → ⊥
            two (inl e) = off (sym same ∙ eqb-true d id e)
            two (inr e) = away (sym same ∙ eqb-true d child e)

            by : (W.names old.hv.heap.seat d ≡ true)
                ⊎ ((only_name id d || only_name child d) ≡ true)
                → ⊥
            by (inl e) = no_name (W.names old.hv.heap.seat j)
                (ap (W.names old.hv.heap.seat) (sym same) ∙ e) (stands.names j lt ∙ full)
            by (inr e) = two (name_parts (only_name id d) (only_name child d) e)

      leaves : (j : ℕ) → j ≢ id → j ≢ child → Leaves W old new ns j
      leaves j off away = record {
        place = pair.other j off away;
        exposed = pair.exposed j away;
        aside = pair.aside j away;
        apart = λ full. apart j (full_small old.places.items stands.places j full) off away full;
      }

      -- no other child in flight is of it, nor of the domain
      not_parent : (e : Flight Pool Seat) → IsForkIn W old (place_at e.parent old.places.items) e
          → e.parent ≡ child → ⊥
      not_parent e fork s = by z pair.child_place
          (subst (λ (place : Place Pool Seat). IsForkIn W old place e)
          (ap (λ (n : ℕ). place_at n old.places.items) s ∙ pair.there) fork) where
            by : (place : Place Pool Seat) → IsChildPlace id place → IsForkIn W old place e → ⊥
            by Empty h k = k
            by (InFlight g) h k = k
            by (Domain d) h k = h

      flights_stay : (j : ℕ) → j ≢ id → FlightsStay W old new j
      flights_stay j off i e at parent = by (same_or_not i id) (same_or_not i child) where
        of_id : (place : Place Pool Seat) → IsChildPlace id place → place ≡ InFlight e
            → e.parent ≡ id
        of_id Empty h k = absurd cc
        of_id (InFlight g) h k =
            let s : g ≡ e = cc in ap (λ (v : Flight Pool Seat). v.parent) (sym s) ∙ h
        of_id (Domain d) h k = absurd h

        by : (i ≡ id) ⊎ (i ≢ id) → (i ≡ child) ⊎ (i ≢ child) → place_at i new.places.items
            ≡ InFlight e
        by (inl s) k = absurd
            (no_flight l e (sym pair.here ∙ ap (λ (n : ℕ). place_at n old.places.items) (sym s)
            ∙ at))
        by (inr n) (inl s) =
            absurd (off (sym parent
            ∙ of_id z pair.child_place
            (sym pair.there ∙ ap (λ (k : ℕ). place_at k old.places.items) (sym s) ∙ at)))
        by (inr n) (inr m) = pair.other i n m ∙ at

      parents : (j : ℕ) → j ≢ child → (place : Place Pool Seat) → IsPlace W old j place (part_at st)
          → LeavesParent W old new ns pair.script pair.spares (part_at st) (part_at st') place
      parents j away Empty h = tt
      parents j away (Domain d) h = tt
      parents j away (InFlight e) h =
          let off : e.parent ≢ id = λ (s : e.parent ≡ id). away (one j
          (ap (λ (i : ℕ). (part_at st i).guest.begun) (sym s) ∙ h.1.begun)) in
          let apart : e.parent ≢ child = not_parent e h.1.fork in
          (leaves e.parent off apart, others e.parent off apart)

      each_by : IsPlace W new id x (part_at st') → IsPlace W new child y (part_at st') → (j : ℕ)
          → (j ≡ id) ⊎ (j ≢ id) → (j ≡ child) ⊎ (j ≢ child)
          → IsPlace W new j (place_at j new.places.items) (part_at st')
      each_by hx hy j (inl e) k =
          subst (λ (i : ℕ). IsPlace W new i (place_at i new.places.items) (part_at st')) (sym e)
          (subst (λ (place : Place Pool Seat). IsPlace W new id place (part_at st'))
          (sym pair.now_here) hx)
      each_by hx hy j (inr off) (inl e) =
          subst (λ (i : ℕ). IsPlace W new i (place_at i new.places.items) (part_at st')) (sym e)
          (subst (λ (place : Place Pool Seat). IsPlace W new child place (part_at st'))
          (sym pair.now_there) hy)
      each_by hx hy j (inr off) (inr away) =
          place_same W old new ns pair.script pair.spares j (part_at st) (part_at st')
          (leaves j off away)
          (parents j away (place_at j old.places.items) (stands.each j))
          (flights_stay j off) (others j off away) stands.each

      names_by : (j : ℕ) → j < 64 → (j ≡ id) ⊎ (j ≢ id) → (j ≡ child) ⊎ (j ≢ child)
          → W.names new.hv.heap.seat j ≡ is_empty (place_at j new.places.items)
      names_by j lt k (inl e) = ap (W.names new.hv.heap.seat) e ∙ pair.name
          ∙ sym (ap is_empty pair.now_there)
          ∙ ap (λ (i : ℕ). is_empty (place_at i new.places.items)) (sym e)
      names_by j lt (inl e) (inr away) = pair.names j away ∙ stands.names j lt
          ∙ ap (λ (i : ℕ). is_empty (place_at i old.places.items)) e
          ∙ ap is_empty pair.here ∙ sym pair.full ∙ sym (ap is_empty pair.now_here)
          ∙ ap (λ (i : ℕ). is_empty (place_at i new.places.items)) (sym e)
      names_by j lt (inr off) (inr away) = pair.names j away ∙ stands.names j lt
          ∙ sym (ap is_empty (pair.other j off away))

      -- the machine stands for a state of which no other part has changed
      pub pair_stands : st'.machine.shared
          ≡ shared_of new.hv.registry
          (pages_in (W.entries new.pool new.hv.heap.seat) new.hv.heap.stock.exposed)
          → IsPlace W new id x (part_at st') → IsPlace W new child y (part_at st')
          → IsStood (rows_of new) st'.books → StandsFor W new st'
      pair_stands shared hx hy stood = record {
        frames = pair.spares.frames ∙ stands.frames ∙ ap (λ s. s.frames) (sym pair.script);
        cap = let e = pair.spares.cap in let le = stands.cap in omega arith;
        heap = pair.heap;
        shared = shared;
        places = pair.long;
        names = λ j lt. names_by j lt (same_or_not j id) (same_or_not j child);
        each = λ j. each_by hx hy j (same_or_not j id) (same_or_not j child);
        colours = stood;
      }
