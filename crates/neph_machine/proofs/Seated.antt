-- The seats of a machine that stands for a state are all seats of its pool, with what each has.
use Rattle.std.proofs.Common.{◌≡◌, ◌≢◌, ℕ, ◌<◌, inl, inr, true, false, List, map, IfSome, IsSome, Some, None, refl, sym, ap, ◌∙◌, subst}
use Rattle.std.specs.declared.option.Option.{Option}
use Rattle.neph_model.specs.Books.{State}
use Rattle.neph_pool.specs.Names.{only_name}
use Rattle.neph_pool.specs.World.{World}
use Rattle.neph_guest.specs.declared.live.Live.{Live}
use Rattle.neph_accounts.specs.Places.{Place as Held, seat_of, AreSurveyed}
use Rattle.neph_accounts.specs.Accounts.{Account, account_at, places}
use Rattle.neph_accounts.specs.Named.{IsPlaced, AreIds, AreNamed}
use Rattle.neph_accounts.proofs.Named.{all_held}
use Rattle.neph_accounts.proofs.Naming.{are_named as named_by_ids}
use Rattle.neph_machine.specs.declared.place.Place.{Place}
use Rattle.neph_machine.specs.declared.place.Place.TheVariants.{Empty, Flight as InFlight, Domain}
use Rattle.neph_machine.specs.declared.place.Flight.{Flight}
use Rattle.neph_machine.specs.declared.machine.Machine.{Machine}
use Rattle.neph_machine.specs.Places.{place_at, is_empty}
use Rattle.neph_machine.specs.Surveyed.{IsSurveyed}
use Rattle.neph_machine.proofs.Reached.{IsReached}
use Rattle.neph_machine.proofs.Summing.{of_first}
use Rattle.neph_machine.proofs.Holding.{domain_has, flight_has, heap_has}
use Rattle.neph_machine.proofs.Accounts.{AreSeated, parent_in, domain_in, heap_place, account, accounts, account_is, all_accounts, begun_by, Bears, domain_at, flight_at, begun_kind, borne, domain_small, flight_small, flight_bears, flight_none, flight_some, domain_lives}

module _ {Pool Seat : Type 0} (W : World Pool Seat) (m : Machine Pool Seat) (st : State)
    (reached : IsReached m.script st) (stands : AreSeated W m st) where
  abbrev us : List (Account Seat)
  us = accounts W m st

  -- the first child that an id has begun
  abbrev pub child_of : ℕ → ℕ
  child_of id = of_first (λ c. c) (begun_by W m st id)

  heap_placed : IsPlaced W m.pool (Some (heap_place W m))
  heap_placed =
      (stands.heap.fits, heap_has (W.entries m.pool m.hv.heap.seat) m.hv.heap.stock stands.heap.has)

  domain_placed : (id : ℕ) → id < 64 → IsPlaced W m.pool (account W m st id).domain
  domain_placed id lt = by (place_at id m.places.items) refl where
    by : (x : Place Pool Seat) → place_at id m.places.items ≡ x
        → IsPlaced W m.pool (domain_in W m x)
    by Empty e = tt
    by (InFlight f) e = tt
    by (Domain l) e =
        let d = domain_at W m st reached stands id l e in
        (d.stands.fits, domain_has (W.entries m.pool l.local.seat) l.local.tables.root l.local.own d.stands.memory)

  domain_named : (id : ℕ) → id < 64
      → IfSome (account W m st id).domain (λ x. W.names x.seat ≡ only_name id)
  domain_named id lt = by (place_at id m.places.items) refl where
    by : (x : Place Pool Seat) → place_at id m.places.items ≡ x
        → IfSome (domain_in W m x) (λ x. W.names x.seat ≡ only_name id)
    by Empty e = tt
    by (InFlight f) e = tt
    by (Domain l) e =
        let d = domain_at W m st reached stands id l e in
        d.stands.names ∙ ap only_name d.id_is

  flight_placed : (id : ℕ) → id < 64 → IsPlaced W m.pool (account W m st id).flight
  flight_placed id lt = elim (begun_kind W m st reached stands id) [
    | inl e ↦ subst (λ (o : Option (Held Seat)). IsPlaced W m.pool o)
        (sym (flight_none W m st reached stands id e)) tt
    | inr b ↦
        (let d = domain_at W m st reached stands id b.l b.here in
        subst (λ (o : Option (Held Seat)). IsPlaced W m.pool o)
        (sym (flight_some W m st reached stands id b)) (
          b.fork.forks.fits,
          flight_has (W.entries m.pool b.l.local.seat) (W.entries m.pool b.flight.fork.seat)
              b.l.local.own.map.pages b.flight.fork.next b.flight.fork.frames.items b.fork.forks.forking
              (λ p q f x y. d.stands.memory.made.apart p q f x y),
        ))
  ]

  flight_named : (id : ℕ) → id < 64
      → IfSome (account W m st id).flight (λ x. W.names x.seat ≡ only_name (child_of id))
  flight_named id lt = elim (begun_kind W m st reached stands id) [
    | inl e ↦ subst (λ (o : Option (Held Seat)). IfSome o (λ x. W.names x.seat ≡ only_name (child_of id)))
        (sym (flight_none W m st reached stands id e)) tt
    | inr b ↦
        subst (λ (o : Option (Held Seat)). IfSome o (λ x. W.names x.seat ≡ only_name (child_of id)))
        (sym (flight_some W m st reached stands id b))
        (b.fork.forks.names ∙ ap only_name (b.child_is ∙ sym (ap (of_first (λ c. c)) b.begun)))
  ]

  bears_at : (id : ℕ) → IsSome (account_at id us).flight → Bears W m st id
  bears_at = all_accounts W m st (λ id a. IsSome a.flight → Bears W m st id)
      (λ id s. absurd (cc)) (λ id lt s. flight_bears W m st reached stands id lt s)

  lives_at : (id : ℕ) → IsSome (account_at id us).domain
      → (l : Live Pool Seat) × (place_at id m.places.items ≡ Domain l)
  lives_at = all_accounts W m st
      (λ id a. IsSome a.domain → (l : Live Pool Seat) × (place_at id m.places.items ≡ Domain l))
      (λ id s. absurd (cc)) (λ id lt s. domain_lives W m st reached stands id s)

  child_is : (id d : ℕ) (b : Bears W m st id) → child_of id ≡ d
      → place_at d m.places.items ≡ InFlight b.flight
  child_is id d b e =
      let same : b.child ≡ d = sym (ap (of_first (λ c. c)) b.begun) ∙ e in
      sym (ap (λ (k : ℕ). place_at k m.places.items) same) ∙ b.there

  not_both : (d : ℕ) (f : Flight Pool Seat) (l : Live Pool Seat)
      → place_at d m.places.items ≡ InFlight f → place_at d m.places.items ≡ Domain l → ⊥
  not_both d f l a b = let e = sym a ∙ b in cc

  one_parent : (id other : ℕ) (b : Bears W m st id) (c : Bears W m st other)
      → child_of id ≡ child_of other → id ≡ other
  one_parent id other b c e =
      let x = child_is id (child_of id) b refl in
      let y = child_is other (child_of id) c (sym e) in
      sym b.parent ∙ ap parent_in (sym x ∙ y) ∙ c.parent

  taken : (d : ℕ) → W.names m.hv.heap.seat d ≡ true → d < 64 → (x : Place Pool Seat)
      → place_at d m.places.items ≡ x → is_empty x ≡ false → ⊥
  taken d n lt x e full =
      let k = sym n ∙ stands.names d lt ∙ ap is_empty e ∙ full in cc

  rest_named : (d : ℕ) → d < 64 → (account_at d us).domain ≡ None
      → ((id : ℕ) → IsSome (account_at id us).flight → child_of id ≢ d)
      → W.names m.hv.heap.seat d ≡ true
  rest_named d lt none no_child = by (place_at d m.places.items) refl where
    by : (x : Place Pool Seat) → place_at d m.places.items ≡ x → W.names m.hv.heap.seat d ≡ true
    by Empty e = stands.names d lt ∙ ap is_empty e
    by (InFlight f) e =
        let b = borne W m st reached stands d f e in
        let low = domain_small W m st reached stands f.parent b.l b.here in
        let some : IsSome (account_at f.parent us).flight =
        subst (λ (a : Account Seat). IsSome a.flight) (sym (account_is W m st f.parent low))
        (subst (λ (o : Option (Held Seat)). IsSome o)
        (sym (flight_some W m st reached stands f.parent b)) refl) in
        absurd (no_child f.parent some
        (ap (of_first (λ c. c)) (flight_at W m st reached stands d f e).1.begun))
    by (Domain l) e =
        absurd (let k : domain_in W m (Domain l) ≡ None =
        ap (domain_in W m) (sym e) ∙ ap (λ (a : Account Seat). a.domain) (sym (account_is W m st d lt)) ∙ none in cc)

  -- each name is that of a domain, of a child in flight, or one of the hypervisor's
  pub are_ids : AreIds W m.pool (heap_place W m) us child_of
  are_ids = record {
    heap_is = heap_placed;
    domains = all_accounts W m st (λ id a. IsPlaced W m.pool a.domain) (λ id. tt) domain_placed;
    flights = all_accounts W m st (λ id a. IsPlaced W m.pool a.flight) (λ id. tt) flight_placed;
    ids = all_accounts W m st (λ id a. IfSome a.domain (λ x. W.names x.seat ≡ only_name id))
        (λ id. tt) domain_named;
    children = all_accounts W m st
        (λ id a. IfSome a.flight (λ x. W.names x.seat ≡ only_name (child_of id)))
        (λ id. tt) flight_named;
    unborn = λ id other s d e. (let b = bears_at id s in let t = lives_at other d in
        not_both other b.flight t.0 (child_is id other b e) t.1);
    single = λ id other s d e. one_parent id other (bears_at id s) (bears_at other d) e;
    heap_names = λ d n. (
      (λ s. let t = lives_at d s in
          taken d n (domain_small W m st reached stands d t.0 t.1) (Domain t.0) t.1 refl),
      (λ id s e. let b = bears_at id s in let x = child_is id d b e in
          taken d n (flight_small W m st reached stands d b.flight x) (InFlight b.flight) x refl),
    );
    rest = rest_named;
  }

  pub are_named : AreNamed W m.pool (heap_place W m) us
  are_named = named_by_ids W m.pool (heap_place W m) us child_of are_ids

  -- all seats, with what each has, in a pool whose counts tell of all seats
  pub are_surveyed : IsSurveyed W → AreSurveyed W m.pool (places (heap_place W m) us)
  are_surveyed survey =
      let held = all_held W m.pool (heap_place W m) us are_named in
      record {
        held = held;
        counted = survey.counted m.pool (map seat_of (places (heap_place W m) us)) held.all;
        shaped = survey.shaped m.pool;
      }
