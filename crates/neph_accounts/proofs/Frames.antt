-- What each frame of a pool is used for, and how many are used so.
use Rattle.std.proofs.Common.{◌≡◌, ℕ, zero, suc, ◌+◌, ◌<◌, ◌≤◌, ◌⊎◌, inl, inr, Bool, true, nat_lt, List, [], ◌∷◌, length, map, get_or, IfSome, Some, None, refl, sym, ap, ◌∙◌, arith, if◌then◌else◌}
use Rattle.std.specs.List.{sum_by, range_with_len}
use Rattle.std.proofs.lemmas.Bool.{lt-ltb}
use Rattle.std.proofs.lemmas.List.Sums.{sum_by-cons}
use Rattle.std.specs.declared.option.Option.{Option}
use Rattle.neph_pool.specs.declared.plain_pool.PlainPool.{PlainPool}
use Rattle.neph_pool.specs.declared.plain_pool.PlainSeat.{PlainSeat}
use Rattle.neph_pool.specs.Entries.{hold_at, weight_of, IsSoleAt, is_here}
use Rattle.neph_pool.specs.World.{World}
use Rattle.neph_pool.specs.Plain.{plain_world}
use Rattle.neph_pool.specs.PlainLaws.{plain_shaped}
use Rattle.neph_pool.specs.Seats.{zero_of, in_place, count_at, weights, zeros}
use Rattle.neph_pool.proofs.Seats.{all_counted}
use Rattle.neph_pool.proofs.Parts.{place_of}
use Rattle.neph_accounts.specs.Holdings.{times, Holding, Has}
use Rattle.neph_accounts.specs.Places.{Place, seat_of, holding_of, page_frames, flying_frames, own_frames, kept_frames, times_named, length_in, pages_under, other_uses, keepers_of, IsFree, IsPrivate, IsSharedFrame, frames_with, AreHeld, AreSurveyed}
use Rattle.neph_accounts.proofs.Sums.{sum_plus, same_in, ones, swap, sum_times, some_term}
use Rattle.neph_accounts.proofs.Holds.{weight_has, zero_has, here_has, at_own}

-- a plain pool's seats
pub plain_survey : (p : PlainPool) (xs : List (Option (Place PlainSeat)))
    → AreHeld plain_world p xs → AreSurveyed plain_world p xs
plain_survey p xs held =
    record {
      held = held;
      counted = all_counted p (map seat_of xs) held.all;
      shaped =
          plain_shaped p;
    }

abbrev pub bit : Bool → ℕ
bit b = if b then 1 else 0

pub some_bit : (n : ℕ) → 0 < n → bit (nat_lt 0 n) ≡ 1
some_bit n h = ap bit (lt-ltb 0 n h)

pub none_bit : (n : ℕ) → n ≡ 0 → bit (nat_lt 0 n) ≡ 0
none_bit n e = ap (λ (k : ℕ). bit (nat_lt 0 k)) e

-- the numbers of one frame: kept, under pages, some seat's own, and all references
classes : (z u o w : ℕ) → w ≡ u + o → (w ≡ 0 → z ≡ 1) → (0 < w → z ≡ 0) → (0 < o → w ≡ 1)
    → ((z ≡ 1) × (u + o ≡ 0)) ⊎ (((u + o ≡ 1) × (z ≡ 0)) ⊎ ((2 ≤ u) × (o + z ≡ 0)))
classes z zero zero w e a b c = inl (a (omega (arith, e)), omega arith)
classes z zero (suc o) w e a b c = let one = c (omega arith) in let none = b (omega (arith, e)) in
    inr (inl (omega (arith, one, e), none))
classes z (suc zero) zero w e a b c = let none = b (omega (arith, e)) in
    inr (inl (omega arith, none))
classes z (suc (suc u)) zero w e a b c = let none = b (omega (arith, e)) in
    inr (inr (omega arith, omega (arith, none)))
classes z (suc u) (suc o) w e a b c = absurd (omega (arith, c (omega arith), e))

module _ {Pool Seat : Type 0} (W : World Pool Seat) (p : Pool) where
  abbrev HaveAll : List (Option (Place Seat)) → Type 0
  HaveAll xs = (i : ℕ) → IfSome (get_or xs i None) (λ x. Has (W.entries p x.seat) x.holding)

  -- the references of a frame that all seats have
  weigh : (f : ℕ) (xs : List (Option (Place Seat))) → HaveAll xs
      → weights W p (map seat_of xs) f ≡ pages_under xs f + other_uses xs f
  weigh f [] a = refl
  weigh f (None ∷ xs) a =
      omega (
        arith,
        weigh f xs (λ i. a (suc i)),
        sum_by-cons (in_place (count_at W weight_of p f)) None (map seat_of xs),
        sum_by-cons (λ (x : Option (Place Seat)). times f (page_frames (holding_of x))) None xs,
        sum_by-cons (λ (x : Option (Place Seat)). times f (flying_frames (holding_of x))) None xs,
        sum_by-cons (λ (x : Option (Place Seat)). times f (own_frames (holding_of x))) None xs,
      )
  weigh f (Some t ∷ xs) a =
      let one =
      weight_has (hold_at (W.entries p t.seat) f) (times f t.holding.pages)
      (times f t.holding.flying) (times f t.holding.own) (times f t.holding.kept) (a zero f) in
      omega (
        arith,
        one,
        weigh f xs (λ i. a (suc i)),
        sum_by-cons (in_place (count_at W weight_of p f)) (Some t.seat) (map seat_of xs),
        sum_by-cons (λ (x : Option (Place Seat)). times f (page_frames (holding_of x)))
            (Some t) xs,
        sum_by-cons (λ (x : Option (Place Seat)). times f (flying_frames (holding_of x)))
            (Some t) xs,
        sum_by-cons (λ (x : Option (Place Seat)). times f (own_frames (holding_of x)))
            (Some t) xs,
      )

  -- the seats that keep it
  keep : (f : ℕ) (xs : List (Option (Place Seat))) → HaveAll xs
      → zeros W p (map seat_of xs) f ≡ keepers_of xs f
  keep f [] a = refl
  keep f (None ∷ xs) a =
      omega (
        arith,
        keep f xs (λ i. a (suc i)),
        sum_by-cons (in_place (count_at W zero_of p f)) None (map seat_of xs),
        sum_by-cons (λ (x : Option (Place Seat)). times f (kept_frames (holding_of x))) None xs,
      )
  keep f (Some t ∷ xs) a =
      let one =
      zero_has (hold_at (W.entries p t.seat) f) (times f t.holding.pages)
      (times f t.holding.flying) (times f t.holding.own) (times f t.holding.kept) (a zero f) in
      omega (
        arith,
        one,
        keep f xs (λ i. a (suc i)),
        sum_by-cons (in_place (count_at W zero_of p f)) (Some t.seat) (map seat_of xs),
        sum_by-cons (λ (x : Option (Place Seat)). times f (kept_frames (holding_of x)))
            (Some t) xs,
      )

  seats_at : (xs : List (Option (Place Seat))) (i : ℕ)
      → get_or (map seat_of xs) i None ≡ seat_of (get_or xs i None)
  seats_at [] i = refl
  seats_at (x ∷ xs) zero = refl
  seats_at (x ∷ xs) (suc i) = seats_at xs i

  -- a frame that a seat has to itself has no other reference
  own_alone : (f w : ℕ) (o : Option (Place Seat))
      → IfSome o (λ x. Has (W.entries p x.seat) x.holding)
      → IfSome (seat_of o) (λ s. IsSoleAt (W.entries p s) f → w ≡ 1)
      → 0 < times f (own_frames (holding_of o)) → w ≡ 1
  own_alone f w None h k lt = absurd (omega arith)
  own_alone f w (Some t) h k lt =
      k (at_own (hold_at (W.entries p t.seat) f) (times f t.holding.pages)
      (times f t.holding.flying) (times f t.holding.own) (times f t.holding.kept) (h f) lt).0

  pub fits_at : (o : Option (Place Seat)) → IfSome (seat_of o) (λ s. W.fits p s)
      → IfSome o (λ x. W.fits p x.seat)
  fits_at None h = tt
  fits_at (Some t) h = h

  module _ (xs : List (Option (Place Seat))) (h : AreSurveyed W p xs) where
    alone : (f : ℕ) → 0 < other_uses xs f → weights W p (map seat_of xs) f ≡ 1
    alone f lt =
        let t = some_term
        (λ (x : Option (Place Seat)). times f (own_frames (holding_of x))) xs None lt in
        let sole = rw (seats_at xs t.0) at (h.counted.sole f t.0) in
        own_alone f (weights W p (map seat_of xs) f) (get_or xs t.0 None) (h.held.has t.0) sole t.2

    -- a frame's count is the number of pages that stand on it, those in flight among them, and of
    -- seats that have it for their own
    pub count_is : (f : ℕ) → f < W.frames p
        → IfSome (W.told p) (λ counts. get_or counts f 0 ≡ pages_under xs f + other_uses xs f)
    count_is f lt = by (W.told p) (h.counted.counts f lt) where
      by : (o : Option (List ℕ))
          → IfSome o (λ counts. get_or counts f 0 ≡ weights W p (map seat_of xs) f)
          → IfSome o (λ counts. get_or counts f 0 ≡ pages_under xs f + other_uses xs f)
      by None k = tt
      by (Some counts) k = k ∙ weigh f xs h.held.has

    -- each frame is free, private or shared
    pub one_class : (f : ℕ) → f < W.frames p → IsFree xs f ⊎ (IsPrivate xs f ⊎ IsSharedFrame xs f)
    one_class f lt =
        classes (keepers_of xs f) (pages_under xs f) (other_uses xs f)
        (weights W p (map seat_of xs) f) (weigh f xs h.held.has)
        (λ e. sym (keep f xs h.held.has) ∙ h.counted.kept f lt e)
        (λ l. sym (keep f xs h.held.has) ∙ h.counted.used f lt l)
        (alone f)

    -- a frame that a seat has to itself is under one page, or that seat's own
    pub sole_one : (f i : ℕ) → f < W.frames p
        → IfSome (get_or xs i None)
        (λ x. IsSoleAt (W.entries p x.seat) f → pages_under xs f + other_uses xs f ≡ 1)
    sole_one f i lt = by (get_or xs i None) (rw (seats_at xs i) at (h.counted.sole f i)) where
      by : (o : Option (Place Seat))
          → IfSome (seat_of o)
          (λ s. IsSoleAt (W.entries p s) f → weights W p (map seat_of xs) f ≡ 1)
          → IfSome o (λ x. IsSoleAt (W.entries p x.seat) f → pages_under xs f + other_uses xs f ≡ 1)
      by None k = tt
      by (Some t) k = λ sole. sym (weigh f xs h.held.has) ∙ k sole

    -- so the numbers of one frame add up to 1
    one_sum : (f : ℕ) → f < W.frames p
        → keepers_of xs f + bit (nat_lt 0 (pages_under xs f)) + other_uses xs f ≡ 1
    one_sum f lt = elim (one_class f lt) [
      | inl e ↦ (let z = none_bit (pages_under xs f) (omega (arith, e.1)) in
          omega (arith, e.0, e.1, z))
      | inr k ↦ elim k [
        | inl e ↦ by (pages_under xs f) (other_uses xs f) e.0 e.1
        | inr e ↦ (let o = some_bit (pages_under xs f) (omega (arith, e.0)) in
            omega (arith, e.1, o))
      ]
    ] where
      by : (u o : ℕ) → u + o ≡ 1 → keepers_of xs f ≡ 0 → keepers_of xs f + bit (nat_lt 0 u) + o ≡ 1
      by zero o e z = omega (arith, e, z, none_bit 0 refl)
      by (suc u) o e z = omega (arith, e, z, some_bit (suc u) (omega arith))

    -- a frame that is kept free is under no page, and no seat's own
    pub only_kept : (f : ℕ) → f < W.frames p → 0 < keepers_of xs f
        → pages_under xs f + other_uses xs f ≡ 0
    only_kept f lt k = elim (one_class f lt) [
      | inl e ↦ e.1
      | inr j ↦ elim j [
        | inl e ↦ absurd (omega (arith, e.1, k))
        | inr e ↦ absurd
            (omega (arith, e.1, k))
      ]
    ]

    -- a seat's own frame is under no page
    pub only_owned : (f : ℕ) → f < W.frames p → 0 < other_uses xs f
        → (pages_under xs f ≡ 0) × (other_uses xs f ≡ 1)
    only_owned f lt k = elim (one_class f lt) [
      | inl e ↦ absurd (omega (arith, e.1, k))
      | inr j ↦ elim j [
        | inl e ↦ (
          omega (arith, e.0, k),
          omega (arith, e.0, k),
        )
        | inr e ↦ absurd (omega (arith, e.1, k))
      ]
    ]

    -- one under a page is for nothing else
    pub only_under : (f : ℕ) → f < W.frames p → 0 < pages_under xs f
        → other_uses xs f + keepers_of xs f ≡ 0
    only_under f lt k = elim (one_class f lt) [
      | inl e ↦ absurd (omega (arith, e.1, k))
      | inr j ↦ elim j [ inl e ↦ omega (arith, e.0, e.1, k) | inr e ↦ e.1 ]
    ]

    -- what is named is a frame of the pool
    pub named_small : (i f : ℕ)
        → 0 < times f (holding_of (get_or xs i None)).pages + times f
        (holding_of (get_or xs i None)).flying + times f
        (holding_of (get_or xs i None)).own + times f (holding_of (get_or xs i None)).kept
        → f < W.frames p
    named_small i f lt =
        go (get_or xs i None)
        (fits_at (get_or xs i None) (rw (seats_at xs i) at (h.held.all.fit i)))
        (h.held.has i) lt where
          go : (o : Option (Place Seat)) → IfSome o (λ t. W.fits p t.seat)
              → IfSome o (λ t. Has (W.entries p t.seat) t.holding)
              → 0 < times f (holding_of o).pages + times f (holding_of o).flying + times f
              (holding_of o).own + times f (holding_of o).kept → f < W.frames p
          go None fit k l = absurd (omega arith)
          go (Some t) fit k l =
              let es = W.entries p t.seat in
              let here : is_here (hold_at es f) ≡ true =
              here_has (hold_at es f) (times f t.holding.pages) (times f t.holding.flying)
              (times f t.holding.own) (times f t.holding.kept) (k f) l in
              omega (arith, place_of es es f refl here, (h.shaped t.seat fit).places)

    abbrev frames : List ℕ
    frames = range_with_len 0 (W.frames p)

    each : (part : Holding → List ℕ)
        → ((i f : ℕ) → 0 < times f (part (holding_of (get_or xs i None))) → f < W.frames p)
        → sum_by (times_named part xs) frames ≡ length_in part xs
    each part small = swap (λ (o : Option (Place Seat)) f. times f (part (holding_of o))) xs frames
        ∙ go xs small where
          go : (us : List (Option (Place Seat)))
              → ((i f : ℕ) → 0 < times f (part (holding_of (get_or us i None))) → f < W.frames p)
              → sum_by
              (λ o. sum_by (λ f. times f (part (holding_of o))) frames) us ≡ length_in part us
          go [] small = refl
          go (u ∷ us) small =
              omega (
                arith,
                sum_times (W.frames p) (part (holding_of u)) (small zero),
                go us (λ d. small (suc d)),
                sum_by-cons
                    (λ (o : Option (Place Seat)). sum_by
                    (λ f. times f (part (holding_of o))) frames) u us,
                sum_by-cons (λ (o : Option (Place Seat)). length (part (holding_of o))) u us,
              )

    -- the frames that are kept free, those under pages, and those that are some seat's own are all
    pub all_frames : length_in kept_frames xs + frames_with (W.frames p)
        (pages_under xs) + length_in own_frames xs ≡ W.frames p
    unfolding frames_with
    all_frames =
        let n : ℕ = W.frames p in
        let whole : sum_by
        (λ f. keepers_of xs f + bit
        (nat_lt 0 (pages_under xs f)) + other_uses xs f) frames ≡ n =
        same_in _ (λ f. 1) 0 n (λ f le lt. one_sum f (omega arith)) ∙ ones 0 n in
        let cut =
        sum_plus (λ f. keepers_of xs f + bit (nat_lt 0 (pages_under xs f)))
        (other_uses xs) frames in
        let more = sum_plus (keepers_of xs) (λ f. bit (nat_lt 0 (pages_under xs f))) frames in
        let free = each kept_frames (λ i f lt. named_small i f (omega arith)) in
        let mine = each own_frames (λ i f lt. named_small i f (omega arith)) in
        omega (arith, whole, cut, more, free, mine)
