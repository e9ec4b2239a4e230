-- The seats of the accounts and the heap's are all seats of the pool.
use Rattle.std.proofs.Common.{◌≡◌, ◌≢◌, ℕ, zero, suc, ◌+◌, ◌<◌, inl, inr, Bool, true, false, List, [], ◌∷◌, length, map, get_or, IfSome, Some, None, refl, sym, ap, ◌∙◌, arith, if◌then◌else◌}
use Rattle.std.specs.List.{sum_by}
use Rattle.std.proofs.lemmas.Bool.{eqb-true}
use Rattle.std.proofs.lemmas.List.Sums.{sum_by-cons}
use Rattle.std.specs.declared.option.Option.{Option}
use Rattle.neph_pool.specs.Names.{only_name}
use Rattle.neph_pool.specs.World.{World, Spares}
use Rattle.neph_pool.specs.Names.{IsApart}
use Rattle.neph_pool.specs.Seats.{in_place, name_of}
use Rattle.neph_accounts.specs.Holdings.{Has}
use Rattle.neph_accounts.specs.Places.{Place, seat_of, AreHeld}
use Rattle.neph_accounts.specs.Accounts.{Account, account_at, seats_in, places}
use Rattle.neph_accounts.specs.Named.{HasName, AreApart, IsPlaced, AreNamed}
use Rattle.neph_accounts.proofs.Ids.{no_sum}

abbrev bit : Bool → ℕ
bit b = if b then 1 else 0

not_named : (b : Bool) → (b ≡ true → ⊥) → bit b ≡ 0
not_named true h = absurd (h refl)
not_named false h = refl

-- one account alone has a number
one_account : {Seat : Type 0} (g : Account Seat → ℕ) (us : List (Account Seat)) (k : ℕ)
    → k < length us → g (account_at k us) ≡ 1 → ((id : ℕ) → id ≢ k → g (account_at id us) ≡ 0)
    → sum_by g us ≡ 1
one_account g [] k lt one none = absurd (omega arith)
one_account g (u ∷ us) zero lt one none =
    let rest = no_sum g us (λ id. none (suc id) (λ e. omega arith)) in
    omega (arith, one, rest, sum_by-cons g u us)
one_account g (u ∷ us) (suc k) lt one none =
    let first : g u ≡ 0 = none zero (λ e. omega arith) in
    omega (
      arith,
      first,
      one_account g us k (omega arith) one (λ id n. none (suc id) (λ e. n (omega (arith, e)))),
      sum_by-cons g u us,
    )

module _ {Pool Seat : Type 0} (W : World Pool Seat) where
  -- 1 where the seat in a place has the name
  abbrev named : ℕ → Option (Place Seat) → ℕ
  named d x = in_place (name_of W d) (seat_of x)

  has_one : (d : ℕ) (x : Option (Place Seat)) → HasName W d x → named d x ≡ 1
  has_one d None h = absurd h
  has_one d (Some x) h = ap (λ (b : Bool). if b then 1 else 0) h

  apart_right : (d : ℕ) (x y : Option (Place Seat)) → AreApart W x y → HasName W d x → named d y ≡ 0
  apart_right d None y a h = absurd h
  apart_right d (Some x) None a h = refl
  apart_right d (Some x) (Some y) a h = not_named (W.names y.seat d) (λ e. a d h e)

  apart_left : (d : ℕ) (x y : Option (Place Seat)) → AreApart W x y → HasName W d y → named d x ≡ 0
  apart_left d None y a h = refl
  apart_left d (Some x) None a h = absurd h
  apart_left d (Some x) (Some y) a h = not_named (W.names x.seat d) (λ e. a d e h)

  other_id : (d id : ℕ) (x : Option (Place Seat)) → IfSome x (λ s. W.names s.seat ≡ only_name id)
      → id ≢ d → named d x ≡ 0
  other_id d id None h n = refl
  other_id d id (Some x) h n =
      not_named (W.names x.seat d)
      (λ e. n (sym (eqb-true d id (ap (λ (ns : ℕ → Bool). ns d) (sym h) ∙ e))))

  names_in : (d : ℕ) (us : List (Account Seat))
      → sum_by (in_place (name_of W d))
      (map seat_of (seats_in us)) ≡ sum_by (λ a. named d a.domain + named d a.flight) us
  names_in d [] = refl
  names_in d (u ∷ us) =
      omega (
        arith,
        names_in d us,
        sum_by-cons (in_place (name_of W d)) (seat_of u.domain)
            (seat_of u.flight ∷ map seat_of (seats_in us)),
        sum_by-cons (in_place (name_of W d))
            (seat_of u.flight) (map seat_of (seats_in us)),
        sum_by-cons (λ (a : Account Seat). named d a.domain + named d a.flight) u us,
      )

  domain_id : (d id : ℕ) (us : List (Account Seat)) → HasName W d (account_at id us).domain
      → id < length us
  domain_id d id [] h = absurd h
  domain_id d zero (u ∷ us) h = omega arith
  domain_id d (suc id) (u ∷ us) h = let k = domain_id d id us h in omega arith

  flight_id : (d id : ℕ) (us : List (Account Seat)) → HasName W d (account_at id us).flight
      → id < length us
  flight_id d id [] h = absurd h
  flight_id d zero (u ∷ us) h = omega arith
  flight_id d (suc id) (u ∷ us) h = let k = flight_id d id us h in omega arith

  seat_fits : (p : Pool) (o : Option (Place Seat)) → IsPlaced W p o
      → IfSome (seat_of o) (λ s. W.fits p s)
  seat_fits p None h = tt
  seat_fits p (Some x) h = h.0

  all_fit : (p : Pool) (us : List (Account Seat))
      → ((id : ℕ) → IsPlaced W p (account_at id us).domain)
      → ((id : ℕ) → IsPlaced W p (account_at id us).flight) → (i : ℕ)
      → IfSome (get_or (map seat_of (seats_in us)) i None) (λ s. W.fits p s)
  all_fit p [] a b i = tt
  all_fit p (u ∷ us) a b zero = seat_fits p u.domain (a zero)
  all_fit p (u ∷ us) a b (suc zero) = seat_fits p u.flight (b zero)
  all_fit p (u ∷ us) a b (suc (suc i)) = all_fit p us (λ id. a (suc id)) (λ id. b (suc id)) i

  seat_has : (p : Pool) (o : Option (Place Seat)) → IsPlaced W p o
      → IfSome o (λ x. Has (W.entries p x.seat) x.holding)
  seat_has p None h = tt
  seat_has p (Some x) h = h.1

  all_have : (p : Pool) (us : List (Account Seat))
      → ((id : ℕ) → IsPlaced W p (account_at id us).domain)
      → ((id : ℕ) → IsPlaced W p (account_at id us).flight) → (i : ℕ)
      → IfSome (get_or (seats_in us) i None) (λ x. Has (W.entries p x.seat) x.holding)
  all_have p [] a b i = tt
  all_have p (u ∷ us) a b zero = seat_has p u.domain (a zero)
  all_have p (u ∷ us) a b (suc zero) = seat_has p u.flight (b zero)
  all_have p (u ∷ us) a b (suc (suc i)) = all_have p us (λ id. a (suc id)) (λ id. b (suc id)) i

  module _ (p : Pool) (heap : Place Seat) (us : List (Account Seat))
      (h : AreNamed W p heap us) where
    abbrev domain : ℕ → Option (Place Seat)
    domain id = (account_at id us).domain

    abbrev flight : ℕ → Option (Place Seat)
    flight id = (account_at id us).flight

    one_name : (d : ℕ) → d < 64
        → named d (Some heap) + sum_by (λ a. named d a.domain + named d a.flight) us ≡ 1
    one_name d lt = elim (h.each d lt) [
      | inl heap_has ↦
          (let one : named d (Some heap) ≡ 1 = has_one d (Some heap) heap_has in
          let none = no_sum (λ a. named d a.domain + named d a.flight) us (λ id.
          let a = apart_right d (Some heap) (domain id) (h.off_domains id) heap_has in
          let b = apart_right d (Some heap) (flight id) (h.off_flights id) heap_has in
          omega (arith, a, b)) in
          omega (arith, one, none))
      | inr k ↦ elim k [
        | inl has ↦
            (let none = apart_left d (Some heap) (domain d) (h.off_domains d) has in
            let one =
            one_account (λ a. named d a.domain + named d a.flight) us d (domain_id d d us has)
            (let a = has_one d (domain d) has in let b =
            apart_left d (flight d) (domain d) (h.between d d) has in omega (arith, a, b))
            (λ id n. let a = other_id d id (domain id) (h.ids id) n in let b =
            apart_left d (flight id) (domain d) (h.between id d) has in omega (arith, a, b)) in
            omega (arith, none, one))
        | inr t ↦
            (let none = apart_left d (Some heap) (flight t.0) (h.off_flights t.0) t.1 in
            let one =
            one_account (λ a. named d a.domain + named d a.flight) us t.0
            (flight_id d t.0 us t.1)
            (let a = has_one d (flight t.0) t.1 in let b =
            apart_right d (flight t.0) (domain t.0) (h.between t.0 t.0) t.1 in
            omega (arith, a, b))
            (λ id n. let a = apart_right d (flight t.0) (domain id) (h.between t.0 id) t.1 in
            let b = apart_right d (flight t.0) (flight id)
            (h.among_flights t.0 id (λ e. n (sym e))) t.1 in omega (arith, a, b)) in
            omega (arith, none, one))
      ]
    ]

    -- these are all seats, with what each has
    pub all_held : AreHeld W p (places heap us)
    all_held = record {
      all = record {
        fit = λ i. fit i;
        names = λ d lt. omega (
          arith,
          one_name d lt,
          names_in d us,
          sum_by-cons (in_place (name_of W d)) (Some heap.seat) (map seat_of (seats_in us)),
        );
      };
      has = λ i. has i;
    } where
      fit : (i : ℕ) → IfSome (get_or (map seat_of (places heap us)) i None) (λ s. W.fits p s)
      fit zero = h.heap_is.0
      fit (suc i) = all_fit p us h.domains h.flights i

      has : (i : ℕ)
          → IfSome (get_or (places heap us) i None) (λ x. Has (W.entries p x.seat) x.holding)
      has zero = h.heap_is.1
      has (suc i) = all_have p us h.domains h.flights i

-- a seat that a call spares still has what it had
pub placed_spared : {Pool Seat : Type 0} (W : World Pool Seat) (p q : Pool) (ns : ℕ → Bool)
    (x : Place Seat) → Spares W ns p q → IsApart ns (W.names x.seat) → IsPlaced W p (Some x)
    → IsPlaced W q (Some x)
placed_spared W p q ns x spares apart h =
    (spares.fits x.seat h.0 apart, (let e = spares.entries x.seat h.0 apart in rw e h.1))
