-- When a seat may hand frames over, and what it has when it has them alone.
use Rattle.std.proofs.Common.{◌≡◌, ℕ, zero, suc, ◌+◌, ◌<◌, ◌≤◌, inl, inr, Bool, true, false, List, [], ◌∷◌, Some, None, refl, sym, ap, ◌∙◌, arith}
use Rattle.std.specs.declared.option.Option.{Option}
use Rattle.neph_pool.specs.declared.entry.Entry.{Entry}
use Rattle.neph_pool.specs.declared.entry.Hold.{Hold}
use Rattle.neph_pool.specs.declared.entry.Hold.TheVariants.{Zero, Sole, Counted}
use Rattle.neph_pool.specs.Entries.{hold_at, is_here, is_whole, is_counted}
use Rattle.neph_pool.specs.Handing.{is_among, AreDistinct, MayTake, MayHand, AreWhole}
use Rattle.neph_accounts.specs.Holdings.{times, Holding, no_holding, Has}
use Rattle.neph_accounts.proofs.Times.{one_at, one_self, one_else, same_or_not, times_cons}
use Rattle.neph_accounts.proofs.Holds.{at_own, at_kept, at_counted}
use Rattle.neph_accounts.proofs.Handovers.{among_some, among_none}
use Rattle.neph_accounts.proofs.Makings.{has_so}

-- frames that stand once each in a list
pub distinct_once : (fs : List ℕ) → AreDistinct fs → (f : ℕ) → times f fs ≤ 1
distinct_once [] d f = omega arith
distinct_once (g ∷ fs) d f = elim (same_or_not g f) [
  | inl e ↦ (let z : times f fs ≡ 0 = ap (λ (y : ℕ). times y fs) (sym e) ∙ among_none g fs d.0 in
      let o : one_at g f ≡ 1 = ap (λ (y : ℕ). one_at y f) e ∙ one_self f in
      omega (arith, z, o, times_cons f g fs))
  | inr n ↦ omega (arith, distinct_once fs d.1 f, one_else g f n, times_cons f g fs)
]

pub once_distinct : (fs : List ℕ) → ((f : ℕ) → times f fs ≤ 1) → AreDistinct fs
once_distinct [] once = tt
once_distinct (g ∷ fs) once = (
  by (is_among g fs) refl,
  once_distinct fs (λ f. let k = once f in omega (arith, k, times_cons f g fs)),
) where
  by : (b : Bool) → is_among g fs ≡ b → is_among g fs ≡ false
  by false e = e
  by true e = let k = once g in
      absurd (omega (arith, k, among_some g fs e, times_cons g g fs, one_self g))

module _ (es to : List (Option Entry)) (l : Holding) (has : Has es l) where
  -- a frame of the seat's own may be taken, and one that it keeps free
  take_own : (f : ℕ) → 0 < times f l.own → MayTake es to f
  take_own f some =
      let h = (at_own (hold_at es f) (times f l.pages) (times f l.flying) (times f l.own)
      (times f l.kept) (has f) some).0 in
      (ap is_here h, (λ whole. absurd (let k = sym whole ∙ ap is_whole h in cc)))

  take_kept : (f : ℕ) → 0 < times f l.kept → MayTake es to f
  take_kept f some =
      let h = (at_kept (hold_at es f) (times f l.pages) (times f l.flying) (times f l.own)
      (times f l.kept) (has f) some).0 in
      (ap is_here h, (λ whole. absurd (let k = sym whole ∙ ap is_whole h in cc)))

  -- frames of the seat's own may be handed over, and frames that it keeps free
  pub hand_own : (fs : List ℕ) → ((f : ℕ) → times f fs ≤ times f l.own) → MayHand es to fs
  hand_own fs from = record {
    once = once_distinct fs (λ f. by f (times f l.own) refl);
    each = λ f a. take_own f (let k = from f in omega (arith, k, among_some f fs a));
  } where
    by : (f n : ℕ) → times f l.own ≡ n → times f fs ≤ 1
    by f zero e = let k = from f in omega (arith, k, e)
    by f (suc n) e = let k = from f in let a =
        (at_own (hold_at es f) (times f l.pages) (times f l.flying) (times f l.own)
        (times f l.kept) (has f) (omega (arith, e))).1 in omega (arith, k, a)

  pub hand_kept : (fs : List ℕ) → ((f : ℕ) → times f fs ≤ times f l.kept) → MayHand es to fs
  hand_kept fs from = record {
    once = once_distinct fs (λ f. by f (times f l.kept) refl);
    each = λ f a. take_kept f (let k = from f in omega (arith, k, among_some f fs a));
  } where
    by : (f n : ℕ) → times f l.kept ≡ n → times f fs ≤ 1
    by f zero e = let k = from f in omega (arith, k, e)
    by f (suc n) e = let k = from f in let a =
        (at_kept (hold_at es f) (times f l.pages) (times f l.flying) (times f l.own)
        (times f l.kept) (has f) (omega (arith, e))).1 in omega (arith, k, a)

  -- a frame under no page of the seat is none that it shares
  pub not_counted : (f : ℕ) → times f l.pages + times f l.flying ≡ 0
      → is_counted (hold_at es f) ≡ false
  not_counted f none = by (hold_at es f) refl where
    by : (h : Option Hold) → hold_at es f ≡ h → is_counted h ≡ false
    by None e = refl
    by (Some Zero) e = refl
    by (Some Sole) e = refl
    by (Some (Counted n)) e =
        absurd (omega (
          arith,
          none,
          at_counted (hold_at es f) (times f l.pages) (times f l.flying)
              (times f l.own) (times f l.kept) (has f) n e,
        ))

  -- a seat with no page may be joined to another
  pub whole_unpaged : ((f : ℕ) → times f l.pages + times f l.flying ≡ 0) → AreWhole es
  whole_unpaged none f here = by (hold_at es f) refl here where
    by : (h : Option Hold) → hold_at es f ≡ h → is_here h ≡ true → is_whole h ≡ true
    by None e y = absurd (cc)
    by (Some Zero) e y = refl
    by (Some Sole) e y = refl
    by (Some (Counted n)) e y =
        absurd (let z = none f in
        omega (
          arith,
          z,
          at_counted (hold_at es f) (times f l.pages) (times f l.flying)
              (times f l.own) (times f l.kept) (has f) n e,
        ))

-- a seat that has these frames to itself, each once, and no other
pub own_only : (es : List (Option Entry)) (fs : List ℕ) → ((f : ℕ) → times f fs ≤ 1)
    → ((f : ℕ) → 0 < times f fs → hold_at es f ≡ Some Sole)
    → ((f : ℕ) → is_here (hold_at es f) ≡ true → 0 < times f fs)
    → Has es (record no_holding { own = fs })
own_only es fs once sole only = has_so es (record no_holding { own = fs }) (record {
  once = λ f. let k = once f in omega (arith, k);
  pages = λ f lt. absurd (omega arith);
  flying = λ f lt. absurd (omega arith);
  own = sole;
  kept = λ f lt. absurd (omega arith);
  only = λ f h. let k = only f h in omega (arith, k);
})

-- one that keeps these frames free, each once, and has no other
pub kept_only : (es : List (Option Entry)) (fs : List ℕ) → ((f : ℕ) → times f fs ≤ 1)
    → ((f : ℕ) → 0 < times f fs → hold_at es f ≡ Some Zero)
    → ((f : ℕ) → is_here (hold_at es f) ≡ true → 0 < times f fs)
    → Has es (record no_holding { kept = fs })
kept_only es fs once zeros only = has_so es (record no_holding { kept = fs }) (record {
  once = λ f. let k = once f in omega (arith, k);
  pages = λ f lt. absurd (omega arith);
  flying = λ f lt. absurd (omega arith);
  own = λ f lt. absurd (omega arith);
  kept = zeros;
  only = λ f h. let k = only f h in omega (arith, k);
})
