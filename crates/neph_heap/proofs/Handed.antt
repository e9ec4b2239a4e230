-- A seat that keeps some frames and has no other hands them all over.
use Rattle.std.proofs.Common.{◌≡◌, ℕ, zero, suc, ◌<◌, ◌||◌, if◌then◌else◌, Bool, true, false, List, [], ◌∷◌, length, get_or, Some, None, refl, sym, ap, ◌∙◌, arith, inl, inr}
use Rattle.std.proofs.lemmas.List.{ext_get_or}
use Rattle.std.specs.declared.option.Option.{Option}
use Rattle.neph_pool.specs.declared.entry.Entry.{Entry}
use Rattle.neph_pool.specs.declared.entry.Hold.{Hold}
use Rattle.neph_pool.specs.declared.entry.Hold.TheVariants.{Zero, Sole, Counted}
use Rattle.neph_pool.specs.Entries.{entry_at, entry_as, hold_at, hold_of, words_of, is_here, is_whole}
use Rattle.neph_pool.specs.Handing.{left_of, left_hold, moved_of, left_after, moved_into, is_among, either_entry, add_entries, AreWhole, MayHand}
use Rattle.neph_pool.proofs.Walks.{entry_left, entry_moved, length-left_after, length-moved_into}
use Rattle.neph_pool.specs.Names.{both_names}
use Rattle.neph_pool.specs.World.{World, Stays, Spares}
use Rattle.neph_heap.specs.Holds.{times, HasAt, Has}
use Rattle.neph_heap.proofs.Among.{among_times, none_times, distinct_of}
use Rattle.neph_heap.proofs.Steps.{has_once, has_zero}
use Rattle.neph_heap.proofs.Heaps.{hold_past, lt_or, spares_then, spares_widen}

none_by : (h : Option Hold) (k : ℕ) → HasAt h 0 0 k → k ≡ 0 → h ≡ None
none_by None k e z = refl
none_by (Some Zero) k e z = absurd (omega (arith, z, e.1))
none_by (Some Sole) k e z = absurd (omega (arith, e.0))
none_by (Some (Counted n)) k e z = absurd (omega (arith, e.1))

-- what the seat has of a frame: it keeps it, or has nothing of it
kept_at : (os : List (Option Entry)) (xs : List ℕ) → Has os [] [] xs → (b : Bool) (f : ℕ) → is_among f xs ≡ b → hold_at os f ≡ (if b then Some Zero else None)
kept_at os xs has true f e = has_zero os [] [] xs has f (among_times f xs e)
kept_at os xs has false f e = none_by (hold_at os f) (times f xs) (has.each f) (none_times f xs e)

here_by : (b : Bool) → is_here (if b then Some Zero else None) ≡ b
here_by true = refl
here_by false = refl

pub kept_among : (os : List (Option Entry)) (xs : List ℕ) → Has os [] [] xs → (f : ℕ) → is_here (hold_at os f) ≡ true → is_among f xs ≡ true
kept_among os xs has f here = sym (ap is_here (kept_at os xs has (is_among f xs) f refl) ∙ here_by (is_among f xs)) ∙ here

pub may_hand_kept : (os es : List (Option Entry)) (xs : List ℕ) → Has os [] [] xs → MayHand os es xs
may_hand_kept os es xs has = record {
  once = distinct_of xs (λ f. let o = has_once os [] [] xs has f in omega (arith, o));
  each = λ f among. let s = kept_at os xs has true f among in (ap is_here s, λ shared. absurd (let w : true ≡ false = sym (ap is_whole s) ∙ shared in cc));
}

hold_of-as : (h : Option Hold) (ws : List ℕ) → hold_of (entry_as h ws) ≡ h
hold_of-as None ws = refl
hold_of-as (Some h) ws = refl

left_none : (b : Bool) (x : Option Entry) → hold_of x ≡ (if b then Some Zero else None) → hold_of (if b then left_of x else x) ≡ None
left_none true x e = hold_of-as (left_hold (hold_of x)) (words_of x) ∙ ap left_hold e
left_none false x e = e

-- the seat has nothing then
emptied : (os : List (Option Entry)) (xs : List ℕ) → Has os [] [] xs → (f : ℕ) → hold_at (left_after os xs) f ≡ None
unfolding hold_at
emptied os xs has f = elim (lt_or f (length os)) [
  | inl lt ↦ ap hold_of (entry_left os xs f lt) ∙ left_none (is_among f xs) (entry_at os f) (kept_at os xs has (is_among f xs) f refl)
  | inr le ↦ hold_past (left_after os xs) f (omega (arith, length-left_after os xs))
]

pub emptied_whole : (os gs : List (Option Entry)) (xs : List ℕ) → Has os [] [] xs → gs ≡ left_after os xs → AreWhole gs
emptied_whole os gs xs has is f here =
    let none : hold_at gs f ≡ None = ap (λ (es : List (Option Entry)). hold_at es f) is ∙ emptied os xs has f in
    let no : is_here (hold_at gs f) ≡ false = ap is_here none in absurd (cc)

either_none : (x : Option Entry) → either_entry x None ≡ x
either_none None = refl
either_none (Some e) = refl

entry-add : (es fs : List (Option Entry)) (f : ℕ) → entry_at (add_entries es fs) f ≡ either_entry (entry_at es f) (entry_at fs f)
unfolding add_entries
entry-add [] fs f = refl
entry-add (x ∷ es) [] f = sym (either_none (get_or (x ∷ es) f None))
entry-add (x ∷ es) (y ∷ fs) zero = refl
entry-add (x ∷ es) (y ∷ fs) (suc f) = entry-add es fs f

length-add : (es fs : List (Option Entry)) → length fs ≡ length es → length (add_entries es fs) ≡ length es
unfolding add_entries
length-add [] [] e = refl
length-add [] (y ∷ fs) e = e
length-add (x ∷ es) [] e = refl
length-add (x ∷ es) (y ∷ fs) e = ap suc (length-add es fs (omega (arith, e)))

kept_entry : (h : Hold) (ws : List ℕ) → Some h ≡ Some Zero → moved_of (Some (record { hold = h; words = ws })) ≡ Some (record { hold = h; words = ws })
kept_entry Zero ws e = refl
kept_entry Sole ws e = absurd (cc)
kept_entry (Counted n) ws e = absurd (cc)

moved_kept : (x : Option Entry) → hold_of x ≡ Some Zero → moved_of x ≡ x
moved_kept None e = absurd (cc)
moved_kept (Some e) z = kept_entry e.hold e.words z

left_kept : (x : Option Entry) → hold_of x ≡ Some Zero → left_of x ≡ None
left_kept x e = ap (λ (h : Option Hold). entry_as (left_hold h) (words_of x)) e

nothing_of : (y : Option Entry) → hold_of y ≡ None → y ≡ None
nothing_of None e = refl
nothing_of (Some e) z = absurd (cc)

-- of each frame the two seats have as much as before
both_at : (b : Bool) (x y : Option Entry) → hold_of x ≡ (if b then Some Zero else None) → (b ≡ true → hold_of y ≡ None) → either_entry (if b then moved_of x else y) (if b then left_of x else x) ≡ either_entry y x
both_at true x y e n = rw (moved_kept x e, left_kept x e, nothing_of y (n refl)) (either_none x)
both_at false x y e n = refl

-- to join the seat after that is to join it at once
pub joined_kept : (os es gs fs : List (Option Entry)) (xs : List ℕ) → length os ≡ length es → Has os [] [] xs → ((f : ℕ) → is_among f xs ≡ true → hold_at es f ≡ None) → gs ≡ left_after os xs → fs ≡ moved_into os es xs → add_entries fs gs ≡ add_entries es os
unfolding hold_at
joined_kept os es gs fs xs long has absent left moved =
    rw (left, moved)
    (ext_get_or None (add_entries (moved_into os es xs) (left_after os xs)) (add_entries es os)
    (length-add (moved_into os es xs) (left_after os xs) (omega (arith, length-left_after os xs, length-moved_into os es xs, long)) ∙ length-moved_into os es xs ∙ sym (length-add es os long))
    (λ f lt.
    let all : length (add_entries (moved_into os es xs) (left_after os xs)) ≡ length es = length-add (moved_into os es xs) (left_after os xs) (omega (arith, length-left_after os xs, length-moved_into os es xs, long)) ∙ length-moved_into os es xs in
    let fit : f < length es = omega (arith, lt, all) in
    let fits : f < length os = omega (arith, fit, long) in
    entry-add (moved_into os es xs) (left_after os xs) f
    ∙ ap (λ (x : Option Entry). either_entry x (entry_at (left_after os xs) f)) (entry_moved os es xs f fit)
    ∙ ap (λ (x : Option Entry). either_entry (if is_among f xs then moved_of (entry_at os f) else entry_at es f) x) (entry_left os xs f fits)
    ∙ both_at (is_among f xs) (entry_at os f) (entry_at es f) (kept_at os xs has (is_among f xs) f refl) (absent f)
    ∙ sym (entry-add es os f)))

or_swap : (a b : Bool) → (a || b) ≡ true → (b || a) ≡ true
or_swap true true e = refl
or_swap true false e = refl
or_swap false true e = refl
or_swap false false e = e

or_same : (a b x y : Bool) → x ≡ a → y ≡ b → (x || y) ≡ true → (a || b) ≡ true
or_same a b x y p q e = rw (sym p, sym q) e

module _ {Pool Seat : Type 0} (W : World Pool Seat) where
  -- every other seat is as it was
  pub spares_kept : (p q r : Pool) (s o t g : Seat) → Stays W q o g → Stays W q s t → Spares W (both_names (W.names o) (W.names s)) p q → Spares W (both_names (W.names t) (W.names g)) q r → Spares W (both_names (W.names s) (W.names o)) p r
  spares_kept p q r s o t g from to h k =
      let ns = both_names (W.names s) (W.names o) in
      spares_then W ns p q r
      (spares_widen W ns (both_names (W.names o) (W.names s)) p q (λ d e. or_swap (W.names o d) (W.names s d) e) h)
      (spares_widen W ns (both_names (W.names t) (W.names g)) q r (λ d e. or_same (W.names s d) (W.names o d) (W.names t d) (W.names g d) (ap (λ ms. ms d) to.names) (ap (λ ms. ms d) from.names) e) k)
