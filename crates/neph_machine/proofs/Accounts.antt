-- The accounts of a machine that stands for a state: what it has for each id.
use Rattle.std.proofs.Common.{◌≡◌, ℕ, ◌<◌, ◌≤◌, ◌⊎◌, inl, inr, Bool, true, false, List, [], ◌∷◌, length, map, IsSome, Some, None, refl, sym, ap, ◌∙◌, subst, arith, ltb-true, ltb-false}
use Rattle.std.specs.Prelude.{nat_lt}
use Rattle.std.specs.List.{sum_by, range_with_len}
use Rattle.std.specs.declared.option.Option.{Option}
use Rattle.neph_model.specs.Books.{State}
use Rattle.neph_model.specs.declared.book.Stage.{Stage}
use Rattle.neph_model.specs.declared.book.Stage.TheVariants as book
use Rattle.neph_runs.specs.Orderly.{seat as part_at, ForksWell}
use Rattle.neph_pool.specs.World.{World}
use Rattle.neph_gmap.specs.declared.page.Page.{Page}
use Rattle.neph_guest.specs.declared.live.Live.{Live}
use Rattle.neph_local.specs.Forks.{IsForkInHand}
use Rattle.neph_heap.specs.Lists.{Lists, exposed_of, aside_of, frames_of}
use Rattle.neph_rows.specs.Records.{shared_of}
use Rattle.neph_heap.specs.Heap.{IsHeap}
use Rattle.neph_heap.specs.Pages.{pages_in}
use Rattle.neph_accounts.specs.Places.{Place as Held}
use Rattle.neph_accounts.specs.Accounts.{Account, no_account, account_at, rows, row_of as account_row}
use Rattle.neph_machine.specs.declared.place.Place.{Place}
use Rattle.neph_machine.specs.declared.place.Place.TheVariants.{Empty, Flight as InFlight, Domain}
use Rattle.neph_machine.specs.declared.place.Flight.{Flight}
use Rattle.neph_machine.specs.declared.machine.Machine.{Machine}
use Rattle.neph_machine.specs.Places.{place_at, is_empty}
use Rattle.neph_machine.specs.Rows.{row_of, rows_of}
use Rattle.neph_machine.specs.StandsFor.{HasNone, IsAtStage, IsInFlight, IsDomain, IsForkIn, IsFlight, StandsFor, IsPlace}
use Rattle.neph_machine.proofs.Reached.{IsReached}
use Rattle.neph_machine.proofs.Holding.{domain_holding, flight_holding, heap_holding}
use Rattle.neph_machine.proofs.Summing.{at_place, past_place, range_long, map_twice, past_end, sum_map}

-- the parent of what stands in a place
abbrev pub parent_in : {Pool Seat : Type 0} → Place Pool Seat → ℕ
parent_in Empty = 0
parent_in (InFlight f) = f.parent
parent_in (Domain l) = 0

module _ {Pool Seat : Type 0} (W : World Pool Seat) (m : Machine Pool Seat) where
  abbrev stock : Lists
  stock = m.hv.heap.stock

  -- the pages of what stands in a place
  abbrev pub pages_at : Place Pool Seat → List Page
  pages_at Empty = []
  pages_at (InFlight f) = []
  pages_at (Domain l) = l.local.own.map.pages

  -- the seat of a domain
  abbrev pub domain_in : Place Pool Seat → Option (Held Seat)
  domain_in Empty = None
  domain_in (InFlight f) = None
  domain_in (Domain l) = Some (record {
    seat = l.local.seat;
    holding = domain_holding (W.entries m.pool l.local.seat) l.local.tables.root l.local.own;
  })

  -- the seat of a child in flight, which has some of these pages
  abbrev pub flight_in : List Page → Place Pool Seat → Option (Held Seat)
  flight_in ps Empty = None
  flight_in ps (InFlight f) = Some (record {
    seat = f.fork.seat;
    holding = flight_holding ps f.fork.next f.fork.frames.items;
  })
  flight_in ps (Domain l) = None

  -- that of the first of these children
  abbrev pub flight_of : List Page → List ℕ → Option (Held Seat)
  flight_of ps [] = None
  flight_of ps (child ∷ rest) = flight_in ps (place_at child m.places.items)

  -- what the hypervisor has put aside for it
  abbrev pub aside_for : List ℕ → List ℕ
  aside_for [] = []
  aside_for (child ∷ rest) = aside_of child stock

  -- the account of an id, in whose place this stands, and which has begun these children
  abbrev pub account_of : ℕ → Place Pool Seat → List ℕ → Account Seat
  account_of id x begun = record {
    row = row_of stock id x;
    exposed = frames_of (exposed_of id stock);
    aside = aside_for begun;
    domain = domain_in x;
    flight = flight_of (pages_at x) begun;
  }

  -- the hypervisor's seat
  abbrev pub heap_place : Held Seat
  heap_place = record { seat = m.hv.heap.seat; holding = heap_holding stock }

  module _ (st : State) where
    abbrev pub begun_by : ℕ → List ℕ
    begun_by id = (part_at st id).guest.begun

    abbrev pub account : ℕ → Account Seat
    account id = account_of id (place_at id m.places.items) (begun_by id)

    pub accounts : List (Account Seat)
    accounts = map account (range_with_len 0 64)

    pub accounts_long : length accounts ≡ 64
    unfolding accounts
    accounts_long = range_long account 0 64

    pub account_is : (id : ℕ) → id < 64 → account_at id accounts ≡ account id
    unfolding accounts
    account_is id lt = at_place account 0 64 id no_account lt ∙ ap account (omega arith)

    pub account_none : (id : ℕ) → 64 ≤ id → account_at id accounts ≡ no_account
    unfolding accounts
    account_none id le = past_place account 0 64 id no_account le

    -- what holds of each account
    pub all_accounts : (P : ℕ → Account Seat → Type 0) → ((id : ℕ) → P id no_account)
        → ((id : ℕ) → id < 64 → P id (account id)) → (id : ℕ) → P id (account_at id accounts)
    all_accounts P none each id = by (nat_lt id 64) refl where
      by : (b : Bool) → nat_lt id 64 ≡ b → P id (account_at id accounts)
      by true e = let lt = ltb-true id 64 e in subst (P id) (sym (account_is id lt)) (each id lt)
      by false e = subst (P id) (sym (account_none id (ltb-false id 64 e))) (none id)

    -- the rows of the accounts are the machine's
    pub rows_are : rows accounts ≡ rows_of m
    unfolding accounts
    rows_are = map_twice account_row account (range_with_len 0 64)

    -- a sum over them
    pub sum_accounts : (g : Account Seat → ℕ)
        → sum_by g accounts ≡ sum_by (λ id. g (account id)) (range_with_len 0 64)
    unfolding accounts
    sum_accounts g = sum_map g account (range_with_len 0 64)

    -- The domain of this id has begun the child in this place, whose fork is in hand.
    pub record Bears (id : ℕ) : Type 0 where
      pub l : Live Pool Seat
      pub here : place_at id m.places.items ≡ Domain l
      pub child : ℕ
      pub begun : begun_by id ≡ child ∷ []
      pub flight : Flight Pool Seat
      pub there : place_at child m.places.items ≡ InFlight flight
      pub parent : flight.parent ≡ id
      pub fork : IsForkInHand W m.pool l.local flight.fork
      pub child_is : flight.fork.child ≡ child
      pub aside : length (aside_of child stock) ≡ length (exposed_of id stock)

    -- all that a machine which stands for a state has, but the colours
    pub record AreSeated : Type 0 where
      pub heap : IsHeap W m.pool m.hv.heap.seat m.hv.heap.stock []
      pub shared : st.machine.shared ≡ shared_of m.hv.registry
          (pages_in (W.entries m.pool m.hv.heap.seat) m.hv.heap.stock.exposed)
      pub places : length m.places.items ≡ 64
      pub names : (id : ℕ) → id < 64
          → W.names m.hv.heap.seat id ≡ is_empty (place_at id m.places.items)
      pub each : (id : ℕ) → IsPlace W m id (place_at id m.places.items) (part_at st)

    pub seated : StandsFor W m st → AreSeated
    seated h = record {
      heap = h.heap;
      shared = h.shared;
      places = h.places;
      names = h.names;
      each = h.each;
    }

    module _ (reached : IsReached m.script st) (stands : AreSeated) where
      -- a live domain
      pub domain_at : (id : ℕ) (l : Live Pool Seat) → place_at id m.places.items ≡ Domain l
          → IsDomain W m id l (part_at st id)
      domain_at id l e = rw e at (stands.each id)

      pub flight_at : (id : ℕ) (f : Flight Pool Seat) → place_at id m.places.items ≡ InFlight f
          → HasNone stock id (part_at st id) × IsFlight W m id f (part_at st f.parent)
      flight_at id f e = rw e at (stands.each id)

      pub empty_at : (id : ℕ) → place_at id m.places.items ≡ Empty
          → HasNone stock id (part_at st id) × (aside_of id stock ≡ [])
      empty_at id e = rw e at (stands.each id)

      fork_in : (id : ℕ) (l : Live Pool Seat) (f : Flight Pool Seat)
          → place_at id m.places.items ≡ Domain l → f.parent ≡ id
          → IsForkIn W m (place_at f.parent m.places.items) f
          → IsForkInHand W m.pool l.local f.fork
      fork_in id l f e parent h =
          subst (λ (x : Place Pool Seat). IsForkIn W m x f)
          (ap (λ (k : ℕ). place_at k m.places.items) parent ∙ e) h

      bears : (id : ℕ) (l : Live Pool Seat) (left : ℕ) → place_at id m.places.items ≡ Domain l
          → IsInFlight W m id l (part_at st id) left → Bears id
      bears id l left e h =
          let f = flight_at h.child h.flight h.there in
          record {
            l = l;
            here = e;
            child = h.child;
            begun = h.begun;
            flight = h.flight;
            there = h.there;
            parent = h.parent;
            fork = fork_in id l h.flight e h.parent f.1.fork;
            child_is = f.1.child;
            aside = f.1.aside ∙ ap (λ (k : ℕ). length (exposed_of k stock)) h.parent;
          }

      -- an id has begun no child, or the one that is in flight
      pub begun_kind : (id : ℕ) → (begun_by id ≡ []) ⊎ Bears id
      begun_kind id = by (place_at id m.places.items) refl where
        stage : (l : Live Pool Seat) → place_at id m.places.items ≡ Domain l
            → (next : ℕ) (s : Stage) → IsAtStage W m id l (part_at st id) s
            → ForksWell id next (begun_by id) s → (begun_by id ≡ []) ⊎ Bears id
        stage l e next book.Ready h forks = inl forks
        stage l e next book.Copying h forks = inl forks
        stage l e next (book.Forking left) h forks = inr (bears id l left e h.2)

        by : (x : Place Pool Seat) → place_at id m.places.items ≡ x
            → (begun_by id ≡ []) ⊎ Bears id
        by Empty e = inl (empty_at id e).0.begun
        by (InFlight f) e = inl (flight_at id f e).0.begun
        by (Domain l) e =
            let d = domain_at id l e in
            stage l e st.machine.shared.tables.next (part_at st id).book.stage d.stage
            (reached.sound.orderly.seats id d.live).forks

      -- a child in flight is one that its parent has begun
      pub borne : (id : ℕ) (f : Flight Pool Seat) → place_at id m.places.items ≡ InFlight f
          → Bears f.parent
      borne id f e = elim (begun_kind f.parent) [
        | inl none ↦ absurd (let b = sym none ∙ (flight_at id f e).1.begun in cc)
        | inr b ↦ b
      ]

      -- an id in whose place something stands is one of the 64
      pub domain_small : (id : ℕ) (l : Live Pool Seat) → place_at id m.places.items ≡ Domain l
          → id < 64
      domain_small id l e = by (nat_lt id 64) refl where
        by : (b : Bool) → nat_lt id 64 ≡ b → id < 64
        by true b = ltb-true id 64 b
        by false b =
            let le = ltb-false id 64 b in
            absurd (let none = past_end m.places.items id Empty (omega (arith, le, stands.places)) in
            let k = sym none ∙ e in cc)

      pub flight_small : (id : ℕ) (f : Flight Pool Seat) → place_at id m.places.items ≡ InFlight f
          → id < 64
      flight_small id f e = by (nat_lt id 64) refl where
        by : (b : Bool) → nat_lt id 64 ≡ b → id < 64
        by true b = ltb-true id 64 b
        by false b =
            let le = ltb-false id 64 b in
            absurd (let none = past_end m.places.items id Empty (omega (arith, le, stands.places)) in
            let k = sym none ∙ e in cc)

      -- the account of an id that has a clone in flight, and of one that has none
      pub flight_bears : (id : ℕ) → id < 64 → IsSome (account id).flight → Bears id
      flight_bears id lt some = elim (begun_kind id) [
        | inl e ↦ absurd (none (begun_by id) e some)
        | inr b ↦ b
      ] where
        none : (begun : List ℕ) → begun ≡ []
            → IsSome (flight_of (pages_at (place_at id m.places.items)) begun) → ⊥
        none [] e s = cc
        none (c ∷ cs) e s = cc

      pub flight_none : (id : ℕ) → begun_by id ≡ [] → (account id).flight ≡ None
      flight_none id e = ap (flight_of (pages_at (place_at id m.places.items))) e

      pub flight_some : (id : ℕ) (b : Bears id) → (account id).flight
          ≡ Some (record {
            seat = b.flight.fork.seat;
            holding = flight_holding b.l.local.own.map.pages b.flight.fork.next b.flight.fork.frames.items;
          })
      flight_some id b = ap (flight_of (pages_at (place_at id m.places.items))) b.begun
          ∙ ap (flight_in (pages_at (place_at id m.places.items))) b.there
          ∙ ap (λ (x : Place Pool Seat). flight_in (pages_at x) (InFlight b.flight)) b.here

      pub domain_lives : (id : ℕ) → IsSome (account id).domain
          → (l : Live Pool Seat) × (place_at id m.places.items ≡ Domain l)
      domain_lives id some = by (place_at id m.places.items) refl some where
        by : (x : Place Pool Seat) → place_at id m.places.items ≡ x → IsSome (domain_in x)
            → (l : Live Pool Seat) × (place_at id m.places.items ≡ Domain l)
        by Empty e s = absurd (cc)
        by (InFlight f) e s = absurd (cc)
        by (Domain l) e s = (l, e)
