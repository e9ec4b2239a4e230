-- The live ids as bits of a word.
use Rattle.std.proofs.Common.{◌≡◌, ◌≢◌, ℕ, ◌+◌, ◌-◌, ◌/◌, ◌%◌, ◌^◌, ◌<◌, ◌≤◌, w64, Bool, true, false, cond, List, length, get_or, set, Some, None, refl, sym, ap, subst, ◌∙◌, inl, inr, arith, shr-shr, below_more, SomeIff}
use Rattle.std.specs.Prelude.{is_some}
use Rattle.std.specs.Int.{bit_at, trailing_zeros}
use Rattle.std.specs.declared.option.Option.{Option}
use Rattle.std.proofs.lemmas.Bool.{cases_eq, cases_lt}
use Rattle.std.proofs.lemmas.List.{get_or_past, get_or_default, get_or-set_other, get_or-set_same}
use Rattle.std.proofs.lemmas.Nat.{shr_le}
use Rattle.std.proofs.lemmas.Nat.Bits.{bit_at-zero, bit_at-trailing_zeros, bit_at_above}
use Rattle.neph_model.specs.declared.life.Life.{Life}
use Rattle.neph_model.specs.Machine.{is_live}
use Rattle.neph_rows.specs.Live.{AreLiveIds, IsNoneLive, IsFirstLive, IsNextLive}

-- the bits of a word from a place on
bits_from : (ids from k : ℕ) → from ≤ k → bit_at (ids / 2 ^ from) (k - from) ≡ bit_at ids k
bits_from ids from k le =
    let same : from + (k - from) ≡ k = omega arith in
    ap (λ x. x % 2) (shr-shr ids from (k - from)) ∙ ap (bit_at ids) same

pub left_none : (ids from : ℕ) → ids / 2 ^ from ≡ 0 → (k : ℕ) → from ≤ k → bit_at ids k ≡ 0
left_none ids from none k le = sym (bits_from ids from k le) ∙ ap (λ x. bit_at x (k - from)) none ∙ bit_at-zero (k - from)

-- the first bit of a word from a place on
pub record IsFirstBit (ids from id : ℕ) : Type 0 where
  pub within : id < 64
  pub found : bit_at ids id ≡ 1
  pub first : (k : ℕ) → from ≤ k → k < id → bit_at ids k ≡ 0

pub left_found : (ids from : ℕ) → ids < 2 ^ 64 → 0 < ids / 2 ^ from → IsFirstBit ids from (from + trailing_zeros w64 (ids / 2 ^ from))
left_found ids from fits some =
    let left = ids / 2 ^ from in
    let at = from + trailing_zeros w64 left in
    let less : left ≤ ids = shr_le ids from in
    let lowest = bit_at-trailing_zeros w64 left some (omega (arith, less, fits)) in
    let place : at - from ≡ trailing_zeros w64 left = omega arith in
    let found : bit_at ids at ≡ 1 = sym (bits_from ids from at (omega arith)) ∙ ap (bit_at left) place ∙ lowest.1 in
    record {
      within = elim (cases_lt at 64) [
        | inl lt ↦ lt
        | inr ge ↦ absurd (omega (arith, found, bit_at_above ids 64 at fits ge))
      ];
      found = found;
      first = λ k le lt. sym (bits_from ids from k le) ∙ lowest.2 (k - from) (omega (arith, le, lt));
    }

-- whether a domain is live, as read at its id
pub read_live : (lives : List (Option Life)) (id : ℕ) (o : Option Life) → id < length lives → o ≡ get_or lives id o → is_some o ≡ is_live id lives
read_live lives id o lt is = ap (λ (x : Option Life). is_some x) (is ∙ sym (get_or_default lives id None o lt))

-- these bits are the live ids below an id, and no other
pub record AreLiveBelow (ids : ℕ) (lives : List (Option Life)) (to : ℕ) : Type 0 where
  pub below : (k : ℕ) → k < to → bit_at ids k ≡ cond (is_live k lives) 1 0
  pub above : (k : ℕ) → to ≤ k → k < 64 → bit_at ids k ≡ 0

pub none_below : (lives : List (Option Life)) → AreLiveBelow 0 lives 0
none_below lives = record { below = λ k lt. absurd (omega (arith, lt)); above = λ k le lt. bit_at-zero k }

pub one_below : (ids new : ℕ) (lives : List (Option Life)) (at : ℕ) → at < 64 → AreLiveBelow ids lives at
    → bit_at new at ≡ cond (is_live at lives) 1 0 → ((k : ℕ) → k < 64 → k ≢ at → bit_at new k ≡ bit_at ids k) → AreLiveBelow new lives (at + 1)
one_below ids new lives at lt h this others = record {
  below = below_more (λ k. bit_at new k ≡ cond (is_live k lives) 1 0) at (λ k low. others k (omega (arith, low)) (λ e. absurd (omega (arith, e, low))) ∙ h.below k low) this;
  above = λ k le low. others k low (λ e. absurd (omega (arith, e, le))) ∙ h.above k (omega (arith, le)) low;
}

pub all_below : (ids : ℕ) (lives : List (Option Life)) (to : ℕ) → AreLiveBelow ids lives to → length lives ≤ to → AreLiveIds ids lives
all_below ids lives to h le id low =
    elim (cases_lt id to) [
      | inl lt ↦ h.below id lt
      | inr ge ↦ h.above id ge low ∙ ap (λ (x : Option Life). cond (is_some x) 1 0) (sym (get_or_past lives id None (omega (arith, ge, le))))
    ]

-- marks that tell of each life tell so where one is changed
pub ids_set : (ids new : ℕ) (lives : List (Option Life)) (at : ℕ) (o : Option Life) → at < length lives → AreLiveIds ids lives
    → bit_at new at ≡ cond (is_some o) 1 0 → ((k : ℕ) → k < 64 → k ≢ at → bit_at new k ≡ bit_at ids k) → AreLiveIds new (set lives at o)
ids_set ids new lives at o lt h this others id low =
    elim (cases_eq id at) [
      | inl same ↦ ap (bit_at new) same ∙ this ∙ ap (λ (x : Option Life). cond (is_some x) 1 0) (sym (get_or-set_same lives at o None lt) ∙ ap (λ k. get_or (set lives at o) k None) (sym same))
      | inr apart ↦ others id low apart ∙ h id low ∙ ap (λ (x : Option Life). cond (is_some x) 1 0) (sym (get_or-set_other lives at id o None apart))
    ]

abbrev bit_of : Bool → ℕ
bit_of b = cond b 1 0

bit_live : (b : Bool) → bit_of b ≡ 1 → b ≡ true
bit_live true e = refl
bit_live false e = absurd (omega (arith, e))

bit_none : (b : Bool) → bit_of b ≡ 0 → b ≡ false
bit_none true e = absurd (omega (arith, e))
bit_none false e = refl

module _ (ids : ℕ) (lives : List (Option Life)) (from : ℕ) (h : AreLiveIds ids lives) where
  pub none_found : ((k : ℕ) → from ≤ k → k < 64 → bit_at ids k ≡ 0) → IsNoneLive lives from 64
  none_found none k le lt = bit_none (is_live k lives) (sym (h k lt) ∙ none k le lt)

  first_live : (id : ℕ) → from ≤ id → IsFirstBit ids from id → IsFirstLive lives from id
  first_live id le bit = record {
    at = le;
    live = bit_live (is_live id lives) (sym (h id bit.within) ∙ bit.found);
    first = λ k low lt. let under : k < 64 = omega (arith, lt, bit.within) in bit_none (is_live k lives) (sym (h k under) ∙ bit.first k low lt);
  }

  pub live_found : (id : ℕ) (o : Option ℕ) → SomeIff o (id < 64) id → from ≤ id → IsFirstBit ids from id → IsNextLive lives from o
  live_found id None is le bit = absurd (is bit.within)
  live_found id (Some x) is le bit = subst (IsFirstLive lives from) (sym is.1) (first_live id le bit)
