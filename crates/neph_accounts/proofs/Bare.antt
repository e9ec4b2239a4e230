-- Frames that are under no page, or under one.
use Rattle.std.proofs.Common.{◌≡◌, ℕ, zero, suc, ◌+◌, ◌<◌, ◌≤◌, List, length, get_or, IfSome, Some, None, refl, sym, ap, subst, arith}
use Rattle.std.specs.declared.option.Option.{Option}
use Rattle.neph_pool.specs.World.{World}
use Rattle.neph_pool.specs.Entries.{IsSoleAt}
use Rattle.neph_accounts.specs.Holdings.{times}
use Rattle.neph_accounts.specs.Places.{Place, holding_of, page_frames, own_frames, pages_under, other_uses, AreSurveyed}
use Rattle.neph_accounts.specs.Accounts.{Account, account_at, rows, pages_on, places, AreAccounts}
use Rattle.neph_accounts.proofs.Sums.{some_term, two_terms}
use Rattle.neph_accounts.proofs.Frames.{sole_one, only_owned, named_small}
use Rattle.neph_accounts.proofs.Ids.{pages_are, domain_place, flight_place}
use Rattle.neph_accounts.proofs.Sharing.{own_bare, kept_bare}
use Rattle.neph_accounts.proofs.Uses.{page_small}

module _ {Pool Seat : Type 0} (W : World Pool Seat) (p : Pool) (heap : Place Seat)
    (us : List (Account Seat)) (h : AreSurveyed W p (places heap us))
    (ok : AreAccounts heap us) where
  abbrev all : List (Option (Place Seat))
  all = places heap us

  abbrev own_at : ℕ → Option (Place Seat) → ℕ
  own_at f x = times f (own_frames (holding_of x))

  -- a table or a spare of a domain
  pub domain_own_bare : (id f : ℕ) → id < length us
      → 0 < times f (holding_of (account_at id us).domain).own → pages_on (rows us) f ≡ 0
  domain_own_bare id f lt some =
      let t = domain_place us id lt in
      own_bare W p heap us h ok (suc t.0) f (subst (λ (x : Option (Place Seat)). 0 < own_at f x)
      (sym t.2) some)

  -- a frame put aside for a clone in flight, with its seat or with the heap
  pub flight_own_bare : (id f : ℕ) → id < length us
      → 0 < times f (holding_of (account_at id us).flight).own → pages_on (rows us) f ≡ 0
  flight_own_bare id f lt some =
      let t = flight_place us id lt in
      own_bare W p heap us h ok (suc t.0) f (subst (λ (x : Option (Place Seat)). 0 < own_at f x)
      (sym t.2) some)

  pub heap_own_bare : (f : ℕ) → 0 < times f heap.holding.own → pages_on (rows us) f ≡ 0
  heap_own_bare f some = own_bare W p heap us h ok 0 f some

  -- a free frame
  pub free_bare : (f : ℕ) → 0 < times f heap.holding.kept → pages_on (rows us) f ≡ 0
  free_bare f some = kept_bare W p heap us h ok 0 f some

  -- frames put aside for one clone, with its seat and with the heap, are each one frame under no
  -- page
  module _ (id : ℕ) (lt : id < length us) (fs : List ℕ)
      (from : (f : ℕ)
      → times f fs ≤ times f
      (holding_of (account_at id us).flight).own + times f heap.holding.own) where
    owned_at : (f : ℕ)
        → times f
        (holding_of (account_at id us).flight).own + times f heap.holding.own ≤ other_uses all f
    owned_at f =
        let t = flight_place us id lt in
        let two =
        two_terms (own_at f) all (suc t.0) 0 None (let k = t.1 in omega arith) (omega arith)
        (λ e. omega arith) in
        let here : own_at f (get_or all (suc t.0) None) ≡ times f
        (holding_of (account_at id us).flight).own = ap (own_at f) t.2 in
        omega (arith, two, here)

    owned_one : (f : ℕ) → 0 < times f fs → (pages_under all f ≡ 0) × (other_uses all f ≡ 1)
    owned_one f some =
        let k : 0 < other_uses all f = (let a = from f in omega (arith, a, some, owned_at f)) in
        let t = some_term (own_at f) all None k in
        only_owned W p all h f (named_small W p all h t.0 f (omega (arith, t.2))) k

    pub aside_once : (f : ℕ) → times f fs ≤ 1
    aside_once f = by (times f fs) refl where
      by : (n : ℕ) → times f fs ≡ n → n ≤ 1
      by zero e = omega arith
      by (suc n) e = let k = owned_one f (omega (arith, e)) in let a = from f in
          omega (arith, e, a, k.1, owned_at f)

    pub aside_bare : (f : ℕ) → 0 < times f fs → pages_on (rows us) f ≡ 0
    aside_bare f some = let k = owned_one f some in omega (arith, k.0, pages_are heap us ok f)

  -- where each seat has its pages' frames to itself, no two pages are in one frame
  pub sole_once : ((i f : ℕ)
      → IfSome (get_or all i None)
      (λ x. 0 < times f x.holding.pages → IsSoleAt (W.entries p x.seat) f)) → (f : ℕ)
      → pages_on (rows us) f ≤ 1
  sole_once sole f = by (pages_on (rows us) f) refl where
    at : (i : ℕ) (o : Option (Place Seat))
        → IfSome o (λ x. 0 < times f x.holding.pages → IsSoleAt (W.entries p x.seat) f)
        → IfSome o (λ x. IsSoleAt (W.entries p x.seat) f
        → pages_under all f + other_uses all f ≡ 1) → 0 < times f (page_frames (holding_of o))
        → pages_under all f + other_uses all f ≡ 1
    at i None a b some = absurd (omega arith)
    at i (Some x) a b some = b (a some)

    by : (n : ℕ) → pages_on (rows us) f ≡ n → n ≤ 1
    by zero e = omega arith
    by (suc n) e =
        let t = some_term
        (λ (x : Option (Place Seat)). times f (page_frames (holding_of x))) all None
        (omega (arith, e, pages_are heap us ok f)) in
        let one =
        at t.0 (get_or all t.0 None) (sole t.0 f)
        (sole_one W p all h f t.0 (page_small W p heap us h ok f (omega (arith, e)))) t.2 in
        omega (arith, e, one, pages_are heap us ok f)
