-- Which seat has which of the 64 names, and that what each has is known.
use Rattle.std.specs.Prelude.{◌≡◌, ◌≢◌, ◌<◌, ◌⊎◌, ℕ, true, ⊤, List, IfSome, IsSome, Some, None}
use Rattle.std.specs.declared.option.Option.{Option}
use Rattle.neph_pool.specs.Names.{IsApart, only_name}
use Rattle.neph_pool.specs.World.{World}
use Rattle.neph_accounts.specs.Holdings.{Has}
use Rattle.neph_accounts.specs.Places.{Place}
use Rattle.neph_accounts.specs.Accounts.{Account, account_at}

module _ {Pool Seat : Type 0} (W : World Pool Seat) where
  -- the seat in a place has the name
  abbrev pub HasName : ℕ → Option (Place Seat) → Type 0
  HasName d None = ⊥
  HasName d (Some x) = W.names x.seat d ≡ true

  -- the seats in two places have no name in common
  abbrev pub AreApart : Option (Place Seat) → Option (Place Seat) → Type 0
  AreApart None y = ⊤
  AreApart (Some x) None = ⊤
  AreApart (Some x) (Some y) = IsApart (W.names x.seat) (W.names y.seat)

  -- the seat in a place, if there is one, is one of the pool, and has what is said
  abbrev pub IsPlaced : Pool → Option (Place Seat) → Type 0
  IsPlaced p o = IfSome o (λ x. W.fits p x.seat × Has (W.entries p x.seat) x.holding)

  -- The heap's seat, those of the domains and those of the children in flight are all seats. A
  -- domain's has its id for its only name, no two have a name in common, and one has each name.
  pub record AreNamed (p : Pool) (heap : Place Seat) (accounts : List (Account Seat)) : Type 0 where
    pub heap_is : IsPlaced p (Some heap)
    pub domains : (id : ℕ) → IsPlaced p (account_at id accounts).domain
    pub flights : (id : ℕ) → IsPlaced p (account_at id accounts).flight
    pub ids : (id : ℕ) → IfSome (account_at id accounts).domain
        (λ x. W.names x.seat ≡ only_name id)
    pub off_domains : (id : ℕ) → AreApart (Some heap) (account_at id accounts).domain
    pub off_flights : (id : ℕ) → AreApart (Some heap) (account_at id accounts).flight
    pub between : (id other : ℕ)
        → AreApart (account_at id accounts).flight (account_at other accounts).domain
    pub among_flights : (id other : ℕ) → id ≢ other
        → AreApart (account_at id accounts).flight (account_at other accounts).flight
    pub each : (d : ℕ) → d < 64 → HasName d (Some heap)
        ⊎ (HasName d (account_at d accounts).domain
        ⊎ ((id : ℕ) × HasName d (account_at id accounts).flight))

  -- So it is where the seat of each live domain has its id for its only name, that of each child in
  -- flight the child's, which is no domain's and no other child's, and the heap's has all others.
  pub record AreIds (p : Pool) (heap : Place Seat) (accounts : List (Account Seat))
      (child : ℕ → ℕ) : Type 0 where
    pub heap_is : IsPlaced p (Some heap)
    pub domains : (id : ℕ) → IsPlaced p (account_at id accounts).domain
    pub flights : (id : ℕ) → IsPlaced p (account_at id accounts).flight
    pub ids : (id : ℕ) → IfSome (account_at id accounts).domain
        (λ x. W.names x.seat ≡ only_name id)
    pub children : (id : ℕ) → IfSome (account_at id accounts).flight
        (λ x. W.names x.seat ≡ only_name (child id))
    pub unborn : (id other : ℕ) → IsSome (account_at id accounts).flight
        → IsSome (account_at other accounts).domain → child id ≢ other
    pub single : (id other : ℕ) → IsSome (account_at id accounts).flight
        → IsSome (account_at other accounts).flight → child id ≡ child other → id ≡ other
    pub heap_names : (d : ℕ) → W.names heap.seat d ≡ true
        → (IsSome (account_at d accounts).domain → ⊥)
        × ((id : ℕ) → IsSome (account_at id accounts).flight → child id ≢ d)
    pub rest : (d : ℕ) → d < 64 → (account_at d accounts).domain ≡ None
        → ((id : ℕ) → IsSome (account_at id accounts).flight → child id ≢ d)
        → W.names heap.seat d ≡ true
