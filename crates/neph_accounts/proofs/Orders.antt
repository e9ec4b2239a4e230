-- The accounts stay in order as one of them changes.
use Rattle.std.proofs.Common.{◌≡◌, ◌≢◌, ℕ, ◌+◌, ◌<◌, inl, inr, true, List, [], ◌++◌, Some, None, refl, sym, ap, ◌∙◌, subst, arith}
use Rattle.std.specs.declared.option.Option.{Option}
use Rattle.neph_pool.specs.declared.entry.Entry.{Entry}
use Rattle.neph_pool.specs.declared.entry.Hold.{Hold}
use Rattle.neph_pool.specs.declared.entry.Hold.TheVariants.{Sole}
use Rattle.neph_pool.specs.Entries.{hold_at, is_here}
use Rattle.neph_pool.specs.Handing.{add_entries}
use Rattle.neph_accounts.specs.Holdings.{times, Holding, no_holding, Has, AreSole}
use Rattle.neph_accounts.specs.Places.{Place, holding_of}
use Rattle.neph_accounts.specs.Accounts.{Account, account_at, IsAccount, IsHeap, AreAccounts}
use Rattle.neph_accounts.specs.Changes.{HoldsNow, IsMore}
use Rattle.neph_accounts.proofs.Times.{one_at, one_else, same_or_not, times_cons, times_both}
use Rattle.neph_accounts.proofs.Steps.{has_as}
use Rattle.neph_accounts.proofs.Moves.{joined_has}

-- one account changes, and what the heap has
pub order_one : {Seat : Type 0} (heap new : Place Seat) (us vs : List (Account Seat)) (id : ℕ)
    → AreAccounts heap us → ((other : ℕ) → other ≢ id → account_at other vs ≡ account_at other us)
    → IsAccount (account_at id vs) → IsHeap new.holding vs → AreAccounts new vs
order_one heap new us vs id ok same here shared = record {
  heap_is = shared;
  each = λ j. elim (same_or_not j id) [
    | inl e ↦ rw e here
    | inr n ↦ (let k = same j n in rw k (ok.each j))
  ];
}

-- two accounts change, as at a commit
pub order_two : {Seat : Type 0} (heap new : Place Seat) (us vs : List (Account Seat))
    (id child : ℕ) → AreAccounts heap us
    → ((other : ℕ) → other ≢ id → other ≢ child → account_at other vs ≡ account_at other us)
    → IsAccount (account_at id vs) → IsAccount (account_at child vs) → IsHeap new.holding vs
    → AreAccounts new vs
order_two heap new us vs id child ok same here there shared = record {
  heap_is = shared;
  each = λ j. elim (same_or_not j id) [
    | inl e ↦ rw e here
    | inr n ↦ elim (same_or_not j child) [
      | inl e ↦ rw e there
      | inr m ↦ (let k = same j n m in rw k (ok.each j))
    ]
  ];
}

module _ {Seat : Type 0} (a : Account Seat) (x : Place Seat) (ok : IsAccount a)
    (is : a.domain ≡ Some x) where
  pages_is : (f : ℕ) → times f a.row ≡ times f x.holding.pages + times f a.exposed
  pages_is f = ok.row f
      ∙ ap (λ (o : Option (Place Seat)). times f (holding_of o).pages + times f a.exposed) is

  flying_is : x.holding.flying ≡ []
  flying_is = ap (λ (o : Option (Place Seat)). (holding_of o).flying) (sym is) ∙ ok.no_flying

  kept_is : x.holding.kept ≡ []
  kept_is = ap (λ (o : Option (Place Seat)). (holding_of o).kept) (sym is) ∙ ok.none_free

  -- the domain's own frames, or its seat, change
  pub account_own : (seat : Seat) (own : List ℕ)
      → IsAccount
      (record a {
        domain =
            Some (record { seat = seat; holding = record x.holding { own = own } });
      })
  account_own seat own =
      record {
        row = pages_is;
        no_flying = flying_is;
        none_free = kept_is;
        flying =
            ok.flying;
        flight_pages = ok.flight_pages;
        flight_free = ok.flight_free;
      }

  -- a page moves to another frame, where no page is in flight
  pub account_copied : (seat : Seat) (pages own row : List ℕ) (f g : ℕ)
      → ((y : ℕ) → times y pages + one_at f y ≡ times y x.holding.pages + one_at g y)
      → ((y : ℕ) → times y row + one_at f y ≡ times y a.row + one_at g y)
      → (holding_of a.flight).flying ≡ []
      → IsAccount
      (record a {
        row = row;
        domain =
            Some (record { seat = seat; holding = record x.holding { pages = pages; own = own } });
      })
  account_copied seat pages own row f g moved rows none = record {
    row = λ y. omega (arith, moved y, rows y, pages_is y);
    no_flying = flying_is;
    none_free = kept_is;
    flying =
        λ y some. (let z : times y (holding_of a.flight).flying ≡ 0 = ap (times y) none in
        absurd (omega (arith, z, some)));
    flight_pages = ok.flight_pages;
    flight_free = ok.flight_free;
  }

  -- a page goes to the heap, or comes back from it
  pub account_out : (seat : Seat) (pages exposed : List ℕ) (f : ℕ) → IsMore f pages x.holding.pages
      → IsMore f a.exposed exposed
      → IsAccount
      (record a {
        exposed = exposed;
        domain =
            Some (record { seat = seat; holding = record x.holding { pages = pages } });
      })
  account_out seat pages exposed f less more = record {
    row = λ y. omega (
      arith,
      pages_is y,
      less y,
      more y,
      times_cons y f pages,
      times_cons y f a.exposed,
    );
    no_flying = flying_is;
    none_free = kept_is;
    flying = ok.flying;
    flight_pages = ok.flight_pages;
    flight_free = ok.flight_free;
  }

  pub account_in : (seat : Seat) (pages exposed : List ℕ) (f : ℕ) → IsMore f x.holding.pages pages
      → IsMore f exposed a.exposed
      → IsAccount
      (record a {
        exposed = exposed;
        domain =
            Some (record { seat = seat; holding = record x.holding { pages = pages } });
      })
  account_in seat pages exposed f more less = record {
    row = λ y. omega (
      arith,
      pages_is y,
      less y,
      more y,
      times_cons y f exposed,
      times_cons y f x.holding.pages,
    );
    no_flying = flying_is;
    none_free = kept_is;
    flying = ok.flying;
    flight_pages = ok.flight_pages;
    flight_free = ok.flight_free;
  }

-- a page step of the clone: a page of the domain comes to be in flight
pub account_step : {Seat : Type 0} (a : Account Seat) (k : Place Seat)
    (domain : Option (Place Seat)) (seat : Seat) (flying : List ℕ) (f : ℕ) → IsAccount a
    → a.flight ≡ Some k → holding_of domain ≡ holding_of a.domain → 0 < times f a.row
    → IsMore f k.holding.flying flying
    → IsAccount
    (record a {
      domain = domain;
      flight =
          Some (record { seat = seat; holding = record k.holding { flying = flying } });
    })
account_step a k domain seat flying f ok is same some more = record {
  row = λ y. ok.row y ∙ ap (λ (l : Holding). times y l.pages + times y a.exposed) (sym same);
  no_flying = ap (λ (l : Holding). l.flying) same ∙ ok.no_flying;
  none_free = ap (λ (l : Holding). l.kept) same ∙ ok.none_free;
  flying = λ y there. elim (same_or_not y f) [
    | inl e ↦ subst (λ (z : ℕ). 0 < times z a.row) (sym e) some
    | inr n ↦ ok.flying y
        (let q : times y (holding_of a.flight).flying ≡ times y k.holding.flying =
        ap (λ (o : Option (Place _)). times y (holding_of o).flying) is in
        omega (
          arith,
          q,
          there,
          more y,
          times_cons y f k.holding.flying,
          one_else f y (λ e. n (sym e)),
        ))
  ];
  flight_pages = ap (λ (o : Option (Place _)). (holding_of o).pages) (sym is) ∙ ok.flight_pages;
  flight_free = ap (λ (o : Option (Place _)). (holding_of o).kept) (sym is) ∙ ok.flight_free;
}

-- the account of a domain that has no clone in flight, of its pages and tables
pub account_lone : {Seat : Type 0} (seat : Seat) (pages own row exposed : List ℕ)
    → ((f : ℕ) → times f row ≡ times f pages + times f exposed)
    → IsAccount
    (record {
      row = row;
      exposed = exposed;
      aside = [];
      domain =
          Some (record {
            seat = seat;
            holding =
                record no_holding { pages = pages; own = own };
          });
      flight = None;
    })
account_lone seat pages own row exposed row_is =
    record {
      row = row_is;
      no_flying = refl;
      none_free = refl;
      flying =
          λ f h. absurd (omega arith);
      flight_pages = refl;
      flight_free = refl;
    }

-- the heap's seat with what an ended domain's kept free
pub joined_kept : (es fs now : List (Option Entry)) (l : Holding) (free : List ℕ) → Has es l
    → Has fs (record no_holding { kept = free }) → now ≡ add_entries es fs
    → ((f : ℕ) → is_here (hold_at fs f) ≡ true → hold_at es f ≡ None)
    → Has now (record l { kept = l.kept ++ free })
joined_kept es fs now l free a b e absent =
    let none : List ℕ = [] in
    has_as now now
    (record {
      pages = l.pages ++ none;
      flying = l.flying ++ none;
      own = l.own ++ none;
      kept =
          l.kept ++ free;
    }) (record l { kept = l.kept ++ free }) (λ g. refl)
    (λ g. omega (arith, times_both g l.pages none))
    (λ g. omega (arith, times_both g l.flying none))
    (λ g. omega (arith, times_both g l.own none)) (λ g. refl)
    (joined_has es fs now l (record no_holding { kept = free }) a b e absent)

-- frames that a seat has to itself, as one frame changes
pub sole_step : (es now : List (Option Entry)) (f : ℕ) (h : Option Hold) (xs ys : List ℕ)
    → AreSole es xs → HoldsNow f h es now → ((g : ℕ) → g ≢ f → times g ys ≡ times g xs)
    → (0 < times f ys → h ≡ Some Sole) → AreSole now ys
sole_step es now f h xs ys sole step same here g some = elim (same_or_not g f) [
  | inl e ↦ ap (hold_at now) e ∙ step.here ∙ here (subst (λ (k : ℕ). 0 < times k ys) e some)
  | inr n ↦ step.others g n ∙ sole g (let k = same g n in omega (arith, k, some))
]
