-- How a holding is shown of a seat, and how many entries the seat has then.
use Rattle.std.proofs.Common.{◌≡◌, ℕ, zero, suc, ◌+◌, ◌<◌, ◌≤◌, Bool, true, List, length, get_or, Some, None, refl, sym, arith, if◌then◌else◌}
use Rattle.std.specs.List.{sum_by, range_with_len}
use Rattle.std.specs.declared.option.Option.{Option}
use Rattle.neph_pool.specs.declared.entry.Entry.{Entry}
use Rattle.neph_pool.specs.declared.entry.Hold.{Hold}
use Rattle.neph_pool.specs.declared.entry.Hold.TheVariants.{Zero, Sole, Counted}
use Rattle.neph_pool.specs.Entries.{hold_at, hold_of, weight_of, is_here, is_entry, entry_count}
use Rattle.neph_pool.proofs.Parts.{place_of}
use Rattle.neph_accounts.specs.Holdings.{times, Holding, HasAt, Has}
use Rattle.neph_accounts.proofs.Sums.{sum_plus, same_in, sum_times, sum_places}
use Rattle.neph_accounts.proofs.Holds.{here_has}
use Rattle.neph_accounts.proofs.Handovers.{names_of}

-- No frame is named twice; one under a page has one reference of the seat, one under a page in
-- flight is shared, one of its own is sole, one that is kept has no reference; and no other is
-- there.
pub record IsHeldSo (es : List (Option Entry)) (l : Holding) : Type 0 where
  pub once : (f : ℕ) → names_of l f ≤ 1
  pub pages : (f : ℕ) → 0 < times f l.pages → weight_of (hold_at es f) ≡ 1
  pub flying : (f : ℕ) → 0 < times f l.flying → hold_at es f ≡ Some (Counted 1)
  pub own : (f : ℕ) → 0 < times f l.own → hold_at es f ≡ Some Sole
  pub kept : (f : ℕ) → 0 < times f l.kept → hold_at es f ≡ Some Zero
  pub only : (f : ℕ) → is_here (hold_at es f) ≡ true → 0 < names_of l f

module _ (h : Option Hold) (pages flying own kept : ℕ) (once : pages + flying + own + kept ≤ 1)
    (page : 0 < pages → weight_of h ≡ 1) (flies : 0 < flying → h ≡ Some (Counted 1))
    (owns : 0 < own → h ≡ Some Sole) (keeps : 0 < kept → h ≡ Some Zero)
    (only : is_here h ≡ true → 0 < pages + flying + own + kept) where
  none_of : {h k : Hold} → {P : Type 0} → (Some h ≡ Some k → ⊥) → Some h ≡ Some k → P
  none_of n e = absurd (n e)

  zero_if : (n : ℕ) → (0 < n → ⊥) → n ≡ 0
  zero_if zero f = refl
  zero_if (suc n) f = absurd (f (omega arith))

  pub at_so : HasAt h pages flying own kept
  at_so = by h page flies owns keeps only where
    by : (h : Option Hold) → (0 < pages → weight_of h ≡ 1) → (0 < flying → h ≡ Some (Counted 1))
        → (0 < own → h ≡ Some Sole) → (0 < kept → h ≡ Some Zero)
        → (is_here h ≡ true → 0 < pages + flying + own + kept) → HasAt h pages flying own kept
    by None a b c d e =
        let p = zero_if pages (λ l. let k = a l in omega (arith, k)) in
        let f = zero_if flying (λ l. let k = b l in cc) in
        let o = zero_if own (λ l. let k = c l in cc) in
        let z = zero_if kept (λ l. let k = d l in cc) in
        omega (arith, p, f, o, z)
    by (Some Zero) a b c d e =
        let p = zero_if pages (λ l. let k = a l in omega (arith, k)) in
        let f = zero_if flying (λ l. let k = b l in cc) in
        let o = zero_if own (λ l. let k = c l in cc) in
        let s = e refl in
        (omega (arith, p, f, o), omega (arith, p, f, o, s, once))
    by (Some Sole) a b c d e =
        let f = zero_if flying (λ l. let k = b l in cc) in
        let z = zero_if kept (λ l. let k = d l in cc) in
        let s = e refl in
        (omega (arith, f, z, s, once), omega (arith, f, z))
    by (Some (Counted n)) a b c d e =
        let o = zero_if own (λ l. let k = c l in cc) in
        let z = zero_if kept (λ l. let k = d l in cc) in
        let s = e refl in
        (one n a b (omega (arith, o, z, s)), omega (arith, o, z, s, once), omega (arith, o, z))
      where
        counts : {n k : ℕ} → Some (Counted n) ≡ Some (Counted k) → n ≡ k
        counts e = cc

        one : (n : ℕ) → (0 < pages → n ≡ 1) → (0 < flying → Some (Counted n) ≡ Some (Counted 1))
            → 0 < pages + flying → n ≡ 1
        one n a b s = split pages refl where
          split : (m : ℕ) → pages ≡ m → n ≡ 1
          split zero e = counts (b (omega (arith, s, e)))
          split (suc m) e = a (omega (arith, e))

pub has_so : (es : List (Option Entry)) (l : Holding) → IsHeldSo es l → Has es l
has_so es l h f =
    at_so (hold_at es f) (times f l.pages) (times f l.flying) (times f l.own) (times f l.kept)
    (h.once f) (h.pages f) (h.flying f) (h.own f) (h.kept f) (h.only f)

abbrev bit : Bool → ℕ
bit b = if b then 1 else 0

bit_at : (h : Option Hold) (p y o k : ℕ) → HasAt h p y o k → bit (is_here h) ≡ p + y + o + k
bit_at None p y o k e = sym e
bit_at (Some Zero) p y o k e = omega (arith, e.0, e.1)
bit_at (Some Sole) p y o k e = omega (arith, e.0, e.1)
bit_at (Some (Counted n)) p y o k e = omega (arith, e.1, e.2)

entry_here : (x : Option Entry) → bit (is_here (hold_of x)) ≡ bit (is_entry x)
entry_here None = refl
entry_here (Some e) = refl

-- a seat has as many entries as its holding has frames
pub count_has : (es : List (Option Entry)) (l : Holding) → Has es l
    → entry_count es ≡ length l.pages + length l.flying + length l.own + length l.kept
unfolding hold_at
count_has es l has =
    let n = length es in
    let fs : List ℕ = range_with_len 0 n in
    let within : (f : ℕ) → 0 < names_of l f → f < n =
    λ f lt. place_of es es f refl (here_has (hold_at es f) (times f l.pages) (times f l.flying)
    (times f l.own) (times f l.kept) (has f) lt) in
    let all : sum_by (λ f. bit (is_here (hold_at es f))) fs ≡ entry_count es =
    sum_places (λ (x : Option Entry). bit (is_entry x)) es None 0
    (λ f. bit (is_here (hold_at es f)))
    (λ i lt. let e : 0 + i ≡ i = omega arith in rw e (entry_here (get_or es i None))) in
    let cut : sum_by (λ f. bit (is_here (hold_at es f))) fs ≡ sum_by (names_of l) fs =
    same_in _ (names_of l) 0 n (λ f le lt. bit_at (hold_at es f) (times f l.pages)
    (times f l.flying) (times f l.own) (times f l.kept) (has f)) in
    omega (
      arith,
      all,
      cut,
      sum_plus (λ f. times f l.pages + times f l.flying + times f l.own) (λ f. times f l.kept) fs,
      sum_plus (λ f. times f l.pages + times f l.flying) (λ f. times f l.own) fs,
      sum_plus (λ f. times f l.pages) (λ f. times f l.flying) fs,
      sum_times n l.pages (λ f lt. within f (omega arith)),
      sum_times n l.flying (λ f lt. within f (omega arith)),
      sum_times n l.own (λ f lt. within f (omega arith)),
      sum_times n l.kept (λ f lt. within f (omega arith)),
    )
