-- Each name is one seat's: the ids of live domains and of children in flight are their seats', and
-- all others the heap's.
use Rattle.std.proofs.Common.{◌≡◌, ◌≢◌, ℕ, zero, suc, ◌<◌, ◌⊎◌, inl, inr, Bool, true, List, [], ◌∷◌, IfSome, IsSome, Some, None, refl, sym, ap, ◌∙◌, eq-eqb}
use Rattle.std.proofs.lemmas.Bool.{eqb-true}
use Rattle.std.specs.Option.{is_some}
use Rattle.std.specs.declared.option.Option.{Option}
use Rattle.neph_pool.specs.Names.{only_name}
use Rattle.neph_pool.specs.World.{World}
use Rattle.neph_accounts.specs.Places.{Place}
use Rattle.neph_accounts.specs.Accounts.{Account, account_at}
use Rattle.neph_accounts.specs.Named.{HasName, AreApart, AreNamed, AreIds}
use Rattle.neph_accounts.proofs.Times.{same_or_not}

module _ {Pool Seat : Type 0} (W : World Pool Seat) where
  only_is : (d e : ℕ) (x : Place Seat) → W.names x.seat ≡ only_name d → W.names x.seat e ≡ true
      → e ≡ d
  only_is d e x n h = eqb-true e d (ap (λ (ns : ℕ → Bool). ns e) (sym n) ∙ h)

  only_has : (d : ℕ) (x : Place Seat) → W.names x.seat ≡ only_name d → W.names x.seat d ≡ true
  only_has d x n = ap (λ (ns : ℕ → Bool). ns d) n ∙ eq-eqb d d refl

  -- the seats of two ids
  ids_apart : (d e : ℕ) (x y : Option (Place Seat)) → IfSome x (λ s. W.names s.seat ≡ only_name d)
      → IfSome y (λ s. W.names s.seat ≡ only_name e) → (IsSome x → IsSome y → d ≢ e)
      → AreApart W x y
  ids_apart d e None y a b n = tt
  ids_apart d e (Some x) None a b n = tt
  ids_apart d e (Some x) (Some y) a b n =
      λ k h j. n refl refl (sym (only_is d k x a h) ∙ only_is e k y b j)

  -- the heap's seat and that of an id which it doesn't have
  heap_apart : (d : ℕ) (heap : Place Seat) (y : Option (Place Seat))
      → IfSome y (λ s. W.names s.seat ≡ only_name d) → (IsSome y → W.names heap.seat d ≡ true → ⊥)
      → AreApart W (Some heap) y
  heap_apart d heap None b n = tt
  heap_apart d heap (Some y) b n =
      λ k h j. n refl (ap (W.names heap.seat) (sym (only_is d k y b j)) ∙ h)

  -- a child in flight of this id, or none
  child_or_none : (d : ℕ) (child : ℕ → ℕ) (us : List (Account Seat))
      → ((id : ℕ) → IfSome (account_at id us).flight (λ x. W.names x.seat ≡ only_name (child id)))
      → ((id : ℕ) × HasName W d (account_at id us).flight)
      ⊎ ((id : ℕ) → IsSome (account_at id us).flight → child id ≢ d)
  child_or_none d child [] h = inr (λ id s e. absurd (cc))
  child_or_none d child (u ∷ us) h =
      elim (child_or_none d (λ id. child (suc id)) us (λ id. h (suc id))) [
        | inl t ↦ inl (suc t.0, t.1)
        | inr none ↦ here u.flight (h zero) refl none
      ] where
        all : (first : IsSome u.flight → child zero ≢ d)
            → ((id : ℕ) → IsSome (account_at id us).flight → child (suc id) ≢ d) → (id : ℕ)
            → IsSome (account_at id (u ∷ us)).flight → child id ≢ d
        all first none zero s = first s
        all first none (suc id) s = none id s

        here : (o : Option (Place Seat)) → IfSome o (λ x. W.names x.seat ≡ only_name (child zero))
            → u.flight ≡ o → ((id : ℕ) → IsSome (account_at id us).flight → child (suc id) ≢ d)
            → ((id : ℕ) × HasName W d (account_at id (u ∷ us)).flight)
            ⊎ ((id : ℕ) → IsSome (account_at id (u ∷ us)).flight → child id ≢ d)
        here None n e none =
            inr (all (λ s q. let k = ap (λ (o : Option (Place Seat)). is_some o) (sym e) in
            absurd (cc)) none)
        here (Some x) n e none = elim (same_or_not (child zero) d) [
          | inl q ↦ inl (
            zero,
            (let k = ap (λ (ns : ℕ → Bool). ns d) n ∙ eq-eqb d (child zero) (sym q) in rw e k),
          )
          | inr ne ↦ inr (all (λ s. ne) none)
        ]

  pub are_named : (p : Pool) (heap : Place Seat) (us : List (Account Seat)) (child : ℕ → ℕ)
      → AreIds W p heap us child → AreNamed W p heap us
  are_named p heap us child h = record {
    heap_is = h.heap_is;
    domains = h.domains;
    flights = h.flights;
    ids = h.ids;
    off_domains =
        λ id. heap_apart id heap (account_at id us).domain (h.ids id)
        (λ s n. (h.heap_names id n).0 s);
    off_flights =
        λ id. heap_apart (child id) heap (account_at id us).flight (h.children id)
        (λ s n. (h.heap_names (child id) n).1 id s refl);
    between =
        λ id other. ids_apart (child id) other (account_at id us).flight
        (account_at other us).domain (h.children id) (h.ids other)
        (λ s d e. h.unborn id other s d e);
    among_flights =
        λ id other ne. ids_apart (child id) (child other)
        (account_at id us).flight (account_at other us).flight (h.children id) (h.children other)
        (λ s d e. ne (h.single id other s d e));
    each = λ d lt. by d lt (account_at d us).domain refl;
  } where
    by : (d : ℕ) → d < 64 → (o : Option (Place Seat)) → (account_at d us).domain ≡ o
        → HasName W d (Some heap)
        ⊎ (HasName W d (account_at d us).domain
        ⊎ ((id : ℕ) × HasName W d (account_at id us).flight))
    by d lt (Some x) e = inr (inl (let n = rw e at (h.ids d) in let k = only_has d x n in rw e k))
    by d lt None e = elim (child_or_none d child us h.children) [
      | inl t ↦ inr (inr t)
      | inr none ↦ inl (h.rest d lt e none)
    ]
